-- The tree of the empty word tells whether the action may come first, and nothing may come at one that is done.
use Rattle.std.proofs.Common.{sym, ap, ◌∙◌}
use Rattle.ix_expr.specs.inside.FormOf.{form_of}
use Rattle.ix_can.specs.May.{may, may_first}
use Rattle.ix_can.proofs.Spent.{may_done}
use Rattle.ix_why.specs.inside.Held.{kept_tree, tree_held}
use Rattle.ix_why.proofs.Initial.{first_next}
use Rattle.ix_why.proofs.ask.takes.Goals as goal

pub returns-in-Initial : goal.returns-in-Initial
returns-in-Initial c =
    let x = form_of c.args.expr.now in
    let e = c.args.scope.now in
    let a = c.args.action.now in
    c.can_first.ensures.by_form
    ∙ ap (λ f. may_first x f a) c.env.ensures
    ∙ first_next x e a c.requires.fits
    ∙ ap (λ s. may x e (tree_held x (kept_tree s)) a) (sym c.in-Initial.is)

pub returns-in-Done : goal.returns-in-Done
returns-in-Done c =
    let x = form_of c.args.expr.now in
    let e = c.args.scope.now in
    let a = c.args.action.now in
    sym (ap (λ s. may x e (tree_held x (kept_tree s)) a) c.in-Done.is ∙ may_done x e a)
