-- What following the gates from the first one on tells.
use Rattle.std.specs.Prelude.{◌≡◌, ◌⊎◌, ◌+◌, ◌^◌, ◌<◌, ◌≤◌, ℕ, List, length}
use Rattle.ix_journal.specs.Entries.{marks_of, pairs_of, renewed_of}
use Rattle.ix_journal.specs.declared.TheConstants.{MOST_RECORDS, MOST_BOOTS}
use Rattle.ix_journal.specs.declared.entries.Entry.{Entry}
use Rattle.ix_journal.specs.declared.entries.Marks.{Marks}
use Rattle.ix_journal.specs.declared.outcome.JournalFault.{JournalFault}
use Rattle.ix_journal.specs.declared.outcome.JournalFault.TheVariants.{NotJournal, Damaged, Many}
use Rattle.ix_journal.specs.Records.{ClosesAt, IsDamagedFrom, IsManyFrom}

-- so many open records are of actions, the last boot has this number, and the first closed gate is
-- at this place
pub record CountsTo (bytes : List ℕ) (first count gate boots : ℕ) : Type 0 where
  pub entries : List Entry
  pub closes : ClosesAt bytes first entries gate
  pub counted : count ≡ length (pairs_of entries)
  pub booted : boots ≡ (marks_of entries).boots

-- following the gates meets this fault
abbrev pub HasFaultFrom : List ℕ → ℕ → JournalFault → Type 0
HasFaultFrom bytes first NotJournal = ⊥
HasFaultFrom bytes first (Damaged at) = IsDamagedFrom bytes first at
HasFaultFrom bytes first Many = IsManyFrom bytes first

-- the records with these marks are too many of actions or too many boots
abbrev pub AreMany : Marks → Type 0
AreMany marks =
    (MOST_RECORDS < marks.actions) ⊎ ((renewed_of marks).boots + MOST_BOOTS < marks.boots)

-- they are too many of neither
abbrev pub AreNotMany : Marks → Type 0
AreNotMany marks =
    (marks.actions ≤ MOST_RECORDS) × (marks.boots ≤ (renewed_of marks).boots + MOST_BOOTS)

-- fewer than a million of the records are boots
abbrev pub HasBootRoom : Marks → Type 0
HasBootRoom marks = marks.boots < (renewed_of marks).boots + MOST_BOOTS

-- the boots before a renewal are among the boots, its numbers fit, and no more actions are carried
-- than were before
pub record AreSound (marks : Marks) : Type 0 where
  pub within : (renewed_of marks).boots ≤ marks.boots
  pub boots : (renewed_of marks).boots ≤ 2 ^ 63
  pub carried : (renewed_of marks).carried ≤ (renewed_of marks).actions
  pub actions : (renewed_of marks).actions ≤ 2 ^ 63
