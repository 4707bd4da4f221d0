use Rattle.std.proofs.Common.{sym, subst}
use Rattle.ix_expr.specs.FormFaults.{Fits}
use Rattle.ix_expr.specs.inside.FormOf.{form_of}
use Rattle.ix_can.specs.Laws.{IsProper}
use Rattle.ix_why.specs.inside.Held.{tree_held}
use Rattle.ix_why.proofs.values.refuses_for.Goals as goal

pub refuses-requires : goal.refuses-requires
refuses-requires c =
    let y = form_of c.args.body.expr.now in
    record {
      fits = subst (Fits y) (sym c.with-inside.ensures) (c.requires.fits.body c.args.value);
      proper = subst (λ s. IsProper y (tree_held y s)) (sym c.at-state.ensures) (c.requires.proper.each c.args.value);
    }
