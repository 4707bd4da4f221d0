-- None of those before owns the action.
use Rattle.std.proofs.Common.{◌≡◌, Some, drop}
use Rattle.ix_expr.specs.Environment.{bind}
use Rattle.ix_expr.specs.inside.FormOf.{form_of}
use Rattle.ix_expr.specs.Tests.{in_alphabet}
use Rattle.ix_why.specs.Blames.{first_that}
use Rattle.ix_why.proofs.owners.first_owner.Given as goal

abbrev pub invariant-loop-value : goal.invariant-loop-value
invariant-loop-value l = first_that (λ v. in_alphabet (form_of l.body.expr.now) (bind l.body.parameter.now (Some v) l.scope) l.action) l.action.values ≡ first_that (λ v. in_alphabet (form_of l.body.expr.now) (bind l.body.parameter.now (Some v) l.scope) l.action) (drop l.value-index l.action.values)
