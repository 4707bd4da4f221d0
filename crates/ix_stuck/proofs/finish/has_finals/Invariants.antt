-- The final states so far are marked.
use Rattle.std.proofs.Common.{◌≡◌, ℕ, ◌<◌, true}
use Rattle.ix_expr.specs.inside.FormOf.{form_of}
use Rattle.ix_can.specs.TreeOf.{is_final}
use Rattle.ix_stuck.specs.declared.graph.State.{State}
use Rattle.ix_stuck.specs.inside.Graphs.{At}
use Rattle.ix_stuck.specs.inside.Marks.{mark_at}
use Rattle.ix_stuck.proofs.finish.has_finals.Given as goal

abbrev pub invariant-loop-place : goal.invariant-loop-place
invariant-loop-place l = (i : ℕ) (s : State) → i < l.place → At l.states i s
    → is_final (form_of l.expr) s.tree ≡ true → mark_at l.marks i ≡ true
