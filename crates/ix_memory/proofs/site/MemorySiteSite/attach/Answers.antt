-- One call more.
use Rattle.std.proofs.Common.{ap, refl}
use Rattle.ix_outside.specs.Contents.{Sends}
use Rattle.ix_memory.proofs.Moments.{quiet_call}
use Rattle.ix_memory.proofs.site.MemorySiteSite.attach.Goals as goal

pub returns-in-Works-clause-call : goal.returns-in-Works-clause-call
returns-in-Works-clause-call c = rw (← c.self.view_is)
    (quiet_call _ _ _ c.add.ensures (ap (λ (s : Sends). s.sent) c.open.ensures.sends))

pub returns-in-Fails-clause-call : goal.returns-in-Fails-clause-call
returns-in-Fails-clause-call c = rw (← c.self.view_is) (quiet_call _ _ _ c.add.ensures refl)
