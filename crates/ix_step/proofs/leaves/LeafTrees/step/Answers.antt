use Rattle.std.proofs.Common.{[], ◌∷◌, ◌++◌, ap, ◌∙◌, arith}
use Rattle.ix_expr.specs.inside.FormOf.{form_of}
use Rattle.ix_tree.specs.Size.{size_of}
use Rattle.ix_can.specs.TreeOf.{tree_of}
use Rattle.ix_can.specs.inside.Moved.{moved}
use Rattle.ix_can.proofs.MovesTell.{each_step}
use Rattle.ix_step.proofs.leaves.LeafTrees.step.Goals as goal

pub returns-in-Ok-clause-by_word : goal.returns-in-Ok-clause-by_word
returns-in-Ok-clause-by_word c = λ w same.
    let x = form_of c.args.expr.now in
    let next = (each_step x c.args.env.now c.args.action.now c.requires.fits).moves w in
    let is = ap (λ t. moved x c.args.env.now t c.args.action.now) (c.knot.ensures ∙ same) ∙ next in
    (c.of.ensures ∙ c.in-Ok.ensures.0 ∙ is, omega (arith, ap size_of is, c.in-Ok.ensures.1))

pub returns-in-Err-clause-by_word : goal.returns-in-Err-clause-by_word
returns-in-Err-clause-by_word c = λ w same.
    let x = form_of c.args.expr.now in
    let next = (each_step x c.args.env.now c.args.action.now c.requires.fits).moves w in
    let is = ap (λ t. moved x c.args.env.now t c.args.action.now) (c.knot.ensures ∙ same) ∙ next in
    c.told.ensures (tree_of x c.args.env.now (w ++ c.args.action.now ∷ [])) (λ over. let lt = c.in-Err.ensures over in omega (arith, ap size_of is, lt))
