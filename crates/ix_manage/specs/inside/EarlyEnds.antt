-- Which early end a fault makes.
use Rattle.ix_cli.specs.declared.fault.WordsFault.{WordsFault}
use Rattle.ix_cli.specs.declared.fault.WordsFault.TheVariants as words
use Rattle.ix_manager.specs.declared.faults.StartFault.{StartFault}
use Rattle.ix_manager.specs.declared.faults.StartFault.TheVariants as fault
use Rattle.ix_manage.specs.declared.early_end.EarlyEnd.{EarlyEnd}
use Rattle.ix_manage.specs.declared.early_end.EarlyEnd.TheVariants.{Refused, Words, OtherExpression}
use Rattle.ix_manage.specs.declared.refusal.JournalRefusal.TheVariants.{Foreign, Damaged, Many}
use Rattle.ix_manage.specs.declared.refusal.JournalRefusal.TheVariants.{Word, Heavy}
use Rattle.ix_manage.specs.declared.refusal.Refusal.TheVariants.{Disk, Large, Memory, Journal}

-- why the run ends where the words weren't read
abbrev pub words_end : WordsFault → EarlyEnd
words_end (words.Bad text) = Words text
words_end words.Memory = Refused Memory

-- why the run ends where no manager was started
abbrev pub unstarted_end : StartFault → EarlyEnd
unstarted_end (fault.Large limit) = Refused (Large limit)
unstarted_end fault.Disk = Refused Disk
unstarted_end fault.Foreign = Refused (Journal Foreign)
unstarted_end (fault.Other kept) = OtherExpression kept
unstarted_end (fault.Damaged at) = Refused (Journal (Damaged at))
unstarted_end fault.Many = Refused (Journal Many)
unstarted_end (fault.Word number) = Refused (Journal (Word number))
unstarted_end (fault.Heavy number limit) = Refused (Journal (Heavy number limit))
unstarted_end fault.Memory = Refused Memory
