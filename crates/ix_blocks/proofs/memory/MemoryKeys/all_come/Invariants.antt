use Rattle.ix_blocks.specs.inside.StoreCalls.{TimePasses}
use Rattle.ix_blocks.specs.inside.MemoryStore.{store_of}
use Rattle.ix_blocks.proofs.memory.MemoryKeys.all_come.Given as goal

abbrev pub invariant-loop-arrival : goal.invariant-loop-arrival
invariant-loop-arrival l = TimePasses (store_of l.initial.self) (store_of l.self)
