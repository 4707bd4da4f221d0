use Rattle.std.proofs.Common.{take}
use Rattle.ix_expr.specs.inside.FormOf.{form_of}
use Rattle.ix_step.specs.inside.ValueTrees.{AddsSeen}
use Rattle.ix_step.proofs.entries.push_seen.Given as goal

abbrev pub invariant-loop-value : goal.invariant-loop-value
invariant-loop-value l = AddsSeen (form_of l.body.expr.now) l.body.parameter.now l.action (take l.value-index l.action.values) l.initial.values.items l.values.items
