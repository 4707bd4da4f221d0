use Rattle.ix_manager.proofs.Refreshing.{IsNotedUpTo}
use Rattle.ix_manager.proofs.watching.refresh.Given as goal

abbrev pub invariant-loop-index : goal.invariant-loop-index
invariant-loop-index l = IsNotedUpTo l.engine l.name l.fn.watches l.index l.watches
