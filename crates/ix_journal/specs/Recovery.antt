-- What a file recovers, and the faults of a ready one.
use Rattle.std.specs.Prelude.{◌≡◌, ℕ, ◌+◌, List, []}
use Rattle.ix_journal.specs.Entries.{marks_of, pairs_of, renewed_of}
use Rattle.ix_journal.specs.History.{PlainHistory}
use Rattle.ix_journal.specs.Kinds.{IsUnfinished, IsUnopened, IsReady}
use Rattle.ix_journal.specs.Records.{ClosesAt, IsDamagedFrom, IsManyFrom}
use Rattle.ix_journal.specs.declared.entries.Entry.{Entry}
use Rattle.ix_journal.specs.declared.TheConstants.{MOST_BOOTS}
use Rattle.ix_journal.specs.declared.entries.Marks.{Marks}
use Rattle.ix_journal.specs.declared.entries.Renewed.{Renewed}

-- ready, and neither damaged nor of too many: these records are open, up to this closed gate
pub record IsJournal (bytes text : List ℕ) (entries : List Entry) (gate : ℕ) : Type 0 where
  pub first : ℕ
  pub ready : IsReady bytes text first
  pub closes : ClosesAt bytes first entries gate

-- a ready file that is damaged at this place
pub record IsDamaged (bytes : List ℕ) (at : ℕ) : Type 0 where
  pub text : List ℕ
  pub first : ℕ
  pub ready : IsReady bytes text first
  pub damaged : IsDamagedFrom bytes first at

-- a ready file of too many open records
pub record IsMany (bytes : List ℕ) : Type 0 where
  pub text : List ℕ
  pub first : ℕ
  pub ready : IsReady bytes text first
  pub many : IsManyFrom bytes first

-- the records that a file keeps: none before it is opened, else those up to the first closed gate
pub data KeepsRecords : List ℕ → List Entry → Type 0 where
  unfinished : (bytes : List ℕ) → IsUnfinished bytes → KeepsRecords bytes []
  unopened : (bytes text : List ℕ) → IsUnopened bytes text → KeepsRecords bytes []
  ready : (bytes text : List ℕ) (entries : List Entry) (gate : ℕ)
      → IsJournal bytes text entries gate → KeepsRecords bytes entries

-- what a file recovers: the actions of the records that it keeps, with their tickets
pub record Recovers (bytes : List ℕ) (history : PlainHistory) : Type 0 where
  pub entries : List Entry
  pub keeps : KeepsRecords bytes entries
  pub pairs : pairs_of entries ≡ history

-- what a file stands for besides its own records, which is three times 0 without a renewal; and the
-- number of its last boot: how many boot records it keeps, with those of the journals before
pub record HoldsBoots (bytes : List ℕ) (renewed : Renewed) (boots : ℕ) : Type 0 where
  pub entries : List Entry
  pub keeps : KeepsRecords bytes entries
  pub said : renewed_of (marks_of entries) ≡ renewed
  pub number : (marks_of entries).boots ≡ boots

-- a million of the records that a file keeps are boots
pub record IsFullOfBoots (bytes : List ℕ) : Type 0 where
  pub entries : List Entry
  pub keeps : KeepsRecords bytes entries
  pub full : let marks = marks_of entries in
      marks.boots ≡ (renewed_of marks).boots + MOST_BOOTS

-- ready, and neither damaged nor of too many: up to this closed gate the open records tell this
-- history, and leave these marks
pub record IsJournalWith (bytes text : List ℕ) (history : PlainHistory) (marks : Marks)
    (gate : ℕ) : Type 0 where
  pub entries : List Entry
  pub journal : IsJournal bytes text entries gate
  pub pairs : pairs_of entries ≡ history
  pub marked : marks_of entries ≡ marks
