use Rattle.ix_stuck.specs.inside.Ruled.{HoldsUpTo}
use Rattle.ix_stuck.proofs.explore.explore.Given as goal

abbrev pub invariant-loop-at : goal.invariant-loop-at
invariant-loop-at l = HoldsUpTo l.rules l.graph.states.items l.graph.edges.items l.at 0
