-- What the test of one more action tells, on the tree of a word.
use Rattle.std.proofs.Common.{ap, ◌∙◌}
use Rattle.ix_expr.specs.inside.FormOf.{form_of}
use Rattle.ix_can.specs.May.{may}
use Rattle.ix_can.proofs.Lists.{same_test}
use Rattle.ix_can.proofs.MovesTell.{each_step}
use Rattle.ix_can.proofs.next.can.Goals as goal

pub returns-clause-tells : goal.returns-clause-tells
returns-clause-tells c = λ w here.
    let x = form_of c.args.expr.now in
    let e = c.args.env.now in
    let a = c.args.action.now in
    same_test (c.goes_on.ensures ∙ ap (λ t. may x e t a) (c.knot.ensures ∙ here)) ((each_step x e a c.requires.fits).next w)
