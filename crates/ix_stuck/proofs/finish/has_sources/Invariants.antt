-- The edges so far are settled.
use Rattle.std.proofs.Common.{◌≡◌, ℕ, ◌<◌, true}
use Rattle.ix_stuck.specs.declared.graph.Edge.{Edge}
use Rattle.ix_stuck.specs.inside.Graphs.{At}
use Rattle.ix_stuck.specs.inside.Marks.{mark_at}
use Rattle.ix_stuck.proofs.finish.has_sources.Given as goal

abbrev pub invariant-loop-edge : goal.invariant-loop-edge
invariant-loop-edge l = (i : ℕ) (edge : Edge) → i < l.edge-index → At l.edges i edge
    → mark_at l.marks edge.to ≡ true → mark_at l.marks edge.from ≡ true
