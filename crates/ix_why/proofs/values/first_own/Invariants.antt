-- For none of those before the body refuses the action.
use Rattle.std.proofs.Common.{◌≡◌, Some, map, drop}
use Rattle.ix_expr.specs.inside.FormOf.{form_of}
use Rattle.ix_why.specs.Blames.{first_that}
use Rattle.ix_why.specs.inside.Held.{kept_tree, refuses_for}
use Rattle.ix_why.proofs.values.first_own.Given as goal

abbrev pub invariant-loop-value : goal.invariant-loop-value
invariant-loop-value l = first_that (refuses_for l.body.own l.body.parameter.now (form_of l.body.expr.now) l.scope (kept_tree l.state) l.action) (map Some l.action.values) ≡ first_that (refuses_for l.body.own l.body.parameter.now (form_of l.body.expr.now) l.scope (kept_tree l.state) l.action) (map Some (drop l.value-index l.action.values))
