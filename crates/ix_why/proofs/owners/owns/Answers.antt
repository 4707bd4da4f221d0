use Rattle.std.proofs.Common.{Some, sym, ◌∙◌, subst}
use Rattle.ix_expr.specs.FormFaults.{Fits}
use Rattle.ix_expr.specs.inside.FormOf.{form_of}
use Rattle.ix_why.proofs.owners.owns.Goals as goal

pub contains-requires : goal.contains-requires
contains-requires c = subst (Fits (form_of c.args.body.expr.now)) (sym (c.env.ensures ∙ c.with-inside.ensures)) (c.requires.body (Some c.args.value.now))
