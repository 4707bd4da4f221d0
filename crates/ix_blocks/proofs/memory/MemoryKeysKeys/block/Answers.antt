use Rattle.std.proofs.Common.{sym}
use Rattle.ix_blocks.specs.inside.MemoryStore.{store_of}
use Rattle.ix_blocks.proofs.Taking.{passes-none}
use Rattle.ix_blocks.proofs.memory.MemoryKeysKeys.block.Goals as goal

pub returns-clause-reads : goal.returns-clause-reads
returns-clause-reads c = record {
  moment = (store_of c.begin.new.self).register;
  until = c.begin.ensures.register;
  holds = (c.if-self-at.false, sym c.in-Ok.ensures);
  since = passes-none (store_of c.args.self.now).sent (store_of c.begin.new.self).register;
}
