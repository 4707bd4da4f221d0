-- Each of those before that owns the action is this one.
use Rattle.std.proofs.Common.{◌≡◌, ◌||◌, not, Some, drop}
use Rattle.std.specs.List.{list_all}
use Rattle.ix_expr.specs.Environment.{bind}
use Rattle.ix_expr.specs.inside.FormOf.{form_of}
use Rattle.ix_values.specs.Order.{text_eq}
use Rattle.ix_expr.specs.Tests.{in_alphabet}
use Rattle.ix_why.proofs.owners.is_only_owner.Given as goal

abbrev pub invariant-loop-other : goal.invariant-loop-other
invariant-loop-other l = list_all (λ v. not (in_alphabet (form_of l.body.expr.now) (bind l.body.parameter.now (Some v) l.scope) l.action) || text_eq l.value v) l.action.values ≡ list_all (λ v. not (in_alphabet (form_of l.body.expr.now) (bind l.body.parameter.now (Some v) l.scope) l.action) || text_eq l.value v) (drop l.other-index l.action.values)
