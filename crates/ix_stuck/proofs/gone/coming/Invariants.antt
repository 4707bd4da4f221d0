-- The actions of the moves so far.
use Rattle.ix_stuck.proofs.Used.{ComingTo}
use Rattle.ix_stuck.proofs.gone.coming.Given as goal

abbrev pub invariant-loop-by : goal.invariant-loop-by
invariant-loop-by l = ComingTo l.moves l.edges l.by l.coming.items
