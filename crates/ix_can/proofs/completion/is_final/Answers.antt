-- What the tree of a word tells of the word being complete.
use Rattle.std.proofs.Common.{ap, ◌∙◌}
use Rattle.ix_expr.specs.inside.FormOf.{form_of}
use Rattle.ix_can.specs.TreeOf.{is_final}
use Rattle.ix_can.proofs.Lists.{same_test}
use Rattle.ix_can.proofs.Naming.{fits_name}
use Rattle.ix_can.proofs.TreesTell.{tree_tells}
use Rattle.ix_can.proofs.completion.is_final.Goals as goal

pub returns-clause-tells : goal.returns-clause-tells
returns-clause-tells c = λ e w fits here.
    let x = form_of c.args.expr.now in
    same_test (c.completes.ensures ∙ ap (is_final x) (c.knot.ensures ∙ here)) (tree_tells x (fits_name x e fits) e w).complete
