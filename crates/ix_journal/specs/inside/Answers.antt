-- What the readers of a journal answer, by the types of the code.
use Rattle.std.specs.Prelude.{ℕ, ◌-◌, List, length}
use Rattle.std.specs.Prelude.{Option, Some, None, if◌then◌else◌}
use Rattle.std.specs.Iterator.{Count, at_most}
use Rattle.ix_journal.specs.Entries.{marks_of, pairs_of}
use Rattle.ix_journal.specs.declared.entries.Entry.{Entry}
use Rattle.ix_journal.specs.declared.records.Records.{Records}
use Rattle.ix_journal.specs.declared.outcome.JournalFault.{JournalFault}
use Rattle.ix_journal.specs.declared.outcome.JournalFault.TheVariants as fault
use Rattle.ix_journal.specs.Kinds.{IsUnfinished, IsUnopened, IsForeign}
use Rattle.ix_journal.specs.Recovery.{IsJournal, IsDamaged, IsMany}
use Rattle.ix_journal.specs.Answers.{Standing}

-- where these records stand
abbrev pub standing : Records → Standing
standing records =
    record {
      bytes = records.bytes.now;
      gate = records.gate;
      marks = records.marks;
      damaged = records.damaged;
    }

-- no more items are left than bytes behind the gate
abbrev pub items_left : Standing → Count
items_left old = at_most (if old.damaged then 0 else length old.bytes - old.gate)

-- what a scan tells: the text, how many open records are of actions, the place of the first closed
-- gate, and the number of the last boot
pub data IsScanned (bytes : List ℕ) : Option (List ℕ) → ℕ → ℕ → ℕ → Type 0 where
  unfinished : IsUnfinished bytes → IsScanned bytes None 0 0 0
  unopened : (text : List ℕ) → IsUnopened bytes text → IsScanned bytes (Some text) 0 0 0
  ready : (text : List ℕ) (entries : List Entry) (gate : ℕ) → IsJournal bytes text entries gate
      → IsScanned bytes (Some text) (length (pairs_of entries)) gate (marks_of entries).boots

-- the file has this fault
abbrev pub HasFault : List ℕ → JournalFault → Type 0
HasFault bytes fault.NotJournal = IsForeign bytes
HasFault bytes (fault.Damaged at) = IsDamaged bytes at
HasFault bytes fault.Many = IsMany bytes
