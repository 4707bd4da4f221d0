-- For none of those before the body refuses the action.
use Rattle.std.proofs.Common.{◌≡◌, Some, map}
use Rattle.ix_expr.specs.inside.FormOf.{form_of}
use Rattle.ix_tree.specs.Order.{key}
use Rattle.ix_tree.specs.Plain.{items_of}
use Rattle.ix_tree.specs.PlainOf.{plain_entries}
use Rattle.ix_why.specs.Blames.{first_that}
use Rattle.ix_why.specs.inside.Held.{kept_tree, refuses_for}
use Rattle.ix_why.proofs.values.first_among.Given as goal

abbrev pub invariant-loop-entry : goal.invariant-loop-entry
invariant-loop-entry l = first_that (refuses_for l.body.own l.body.parameter.now (form_of l.body.expr.now) l.scope (kept_tree l.state) l.action) (map (λ x. Some (key x)) (items_of (plain_entries l.entries))) ≡ first_that (refuses_for l.body.own l.body.parameter.now (form_of l.body.expr.now) l.scope (kept_tree l.state) l.action) (map (λ x. Some (key x)) (items_of (plain_entries l.entry-iterator)))
