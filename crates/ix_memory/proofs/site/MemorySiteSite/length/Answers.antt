-- One call more, which changes nothing.
use Rattle.std.proofs.Common.{refl}
use Rattle.ix_memory.specs.declared.past.Effect.TheVariants.{Kept}
use Rattle.ix_memory.proofs.Moments.{quiet_call}
use Rattle.ix_memory.proofs.site.MemorySiteSite.length.Goals as goal

pub returns-in-Works-clause-call : goal.returns-in-Works-clause-call
returns-in-Works-clause-call c = rw (← c.self.view_is)
    (quiet_call Kept _ _ c.add.ensures refl)

pub returns-in-Fails-clause-call : goal.returns-in-Fails-clause-call
returns-in-Fails-clause-call c = rw (← c.self.view_is)
    (quiet_call Kept _ _ c.add.ensures refl)
