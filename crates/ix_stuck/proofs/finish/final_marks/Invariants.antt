use Rattle.std.proofs.Common.{◌≡◌, map, take}
use Rattle.ix_expr.specs.inside.FormOf.{form_of}
use Rattle.ix_can.specs.TreeOf.{is_final}
use Rattle.ix_stuck.specs.declared.graph.State.{State}
use Rattle.ix_stuck.proofs.finish.final_marks.Given as goal

abbrev pub invariant-loop-state : goal.invariant-loop-state
invariant-loop-state l =
    l.marks.items ≡ map (λ (state : State). is_final (form_of l.expr) state.tree) (take l.state-index l.states)
