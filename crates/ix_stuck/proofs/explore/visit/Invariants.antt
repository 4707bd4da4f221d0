-- The moves so far are in the graph, and the state is there.
use Rattle.std.proofs.Common.{◌<◌, length}
use Rattle.ix_stuck.specs.inside.Ruled.{HoldsUpTo}
use Rattle.ix_stuck.proofs.explore.visit.Given as goal

abbrev pub invariant-loop-by : goal.invariant-loop-by
invariant-loop-by l =
    (l.at < length l.graph.states.items) × HoldsUpTo l.rules l.graph.states.items l.graph.edges.items l.at l.by
