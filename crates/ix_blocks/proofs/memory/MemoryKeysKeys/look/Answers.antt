use Rattle.std.proofs.Common.{refl}
use Rattle.ix_blocks.specs.inside.MemoryStore.{store_of}
use Rattle.ix_blocks.proofs.Taking.{passes-none}
use Rattle.ix_blocks.proofs.memory.MemoryKeysKeys.look.Goals as goal

pub returns-clause-sees : goal.returns-clause-sees
returns-clause-sees c = record {
  moment = (store_of c.begin.new.self).register;
  until = c.begin.ensures.register;
  holds = refl;
  since = passes-none (store_of c.args.self.now).sent (store_of c.begin.new.self).register;
}
