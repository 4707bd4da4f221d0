-- One call more, which may cut the file.
use Rattle.std.proofs.Common.{inl, refl}
use Rattle.ix_outside.specs.Disk.{MaybeCut}
use Rattle.ix_memory.specs.declared.past.Effect.TheVariants.{Kept, Cut}
use Rattle.ix_memory.proofs.Moments.{quiet_call}
use Rattle.ix_memory.proofs.Tearing.{keeps_leaving}
use Rattle.ix_memory.proofs.site.MemorySiteSite.cut.Goals as goal

pub returns-in-Works-clause-call : goal.returns-in-Works-clause-call
returns-in-Works-clause-call c = rw (← c.self.view_is)
    (quiet_call (Cut c.args.length) _ _ c.add.ensures refl)

pub returns-in_default-clause-now : goal.returns-in_default-clause-now
returns-in_default-clause-now c = rw (← c.self.view_is)
    (keeps_leaving (MaybeCut c.args.length) _ _ _ _ c.add-in_default.ensures (λ image. inl refl))

pub returns-in_default-clause-call : goal.returns-in_default-clause-call
returns-in_default-clause-call c = rw (← c.self.view_is)
    (quiet_call Kept _ _ c.add-in_default.ensures refl)
