-- Why a renew ends before it has its answer.
use Rattle.std.specs.Prelude.{◌⊎◌, List, ℕ, ⊤}
use Rattle.ix_outside.specs.Counts.{Rose}
use Rattle.ix_outside.specs.FilesState.{FilesState}
use Rattle.ix_renew.specs.declared.fault.RenewalFault.{RenewalFault}
use Rattle.ix_renew.specs.declared.fault.RenewalFault.TheVariants as fault
use Rattle.ix_manage.specs.Renewals.{HasLongJournal}
use Rattle.ix_manage.specs.declared.early_end.EarlyEnd.{EarlyEnd}
use Rattle.ix_manage.specs.declared.early_end.EarlyEnd.TheVariants.{Refused, OtherExpression}
use Rattle.ix_manage.specs.declared.refusal.Input.TheVariants as input
use Rattle.ix_manage.specs.declared.refusal.JournalRefusal.TheVariants.{Foreign, Damaged, Many}
use Rattle.ix_manage.specs.declared.refusal.JournalRefusal.TheVariants.{Word, Heavy, Unopened}
use Rattle.ix_manage.specs.declared.refusal.JournalRefusal.TheVariants.{There}
use Rattle.ix_manage.specs.declared.refusal.Refusal.{Refusal}
use Rattle.ix_manage.specs.declared.refusal.Refusal.TheVariants.{Disk, Large, Lost, Memory, Journal}

-- why the file of a journal of this name isn't loaded
abbrev pub RefusesLoad : FilesState → FilesState → List ℕ → Refusal → Type 0
RefusesLoad old new name (Lost input.Journal) =
    Rose old.faults new.faults ⊎ HasLongJournal old.contents name
RefusesLoad old new name Memory = ⊤
RefusesLoad old new name _ = ⊥

-- why the run ends where a journal isn't renewed
abbrev pub renewal_end : RenewalFault → EarlyEnd
renewal_end (fault.Large limit) = Refused (Large limit)
renewal_end fault.Foreign = Refused (Journal Foreign)
renewal_end (fault.Other kept) = OtherExpression kept
renewal_end fault.Unopened = Refused (Journal Unopened)
renewal_end (fault.Damaged at) = Refused (Journal (Damaged at))
renewal_end fault.Many = Refused (Journal Many)
renewal_end (fault.Word number) = Refused (Journal (Word number))
renewal_end (fault.Heavy number limit) = Refused (Journal (Heavy number limit))
renewal_end fault.There = Refused (Journal There)
renewal_end fault.Disk = Refused Disk
renewal_end fault.Memory = Refused Memory
