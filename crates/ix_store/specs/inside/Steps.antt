-- What the parts of a start and an append come to.
use Rattle.std.specs.Prelude.{◌≡◌, ◌≢◌, ◌⊎◌, ℕ, ◌+◌, ◌≤◌, List, [], length, All, ⊤}
use Rattle.std.specs.Prelude.{Option, Some, None}
use Rattle.ix_values.specs.Texts.{IsAction}
use Rattle.ix_outside.specs.Disk.{Torn}
use Rattle.ix_journal.specs.Entries.{fresh, marks_of, pairs_of}
use Rattle.ix_journal.specs.Format.{farthest_gate}
use Rattle.ix_journal.specs.History.{PlainHistory, Spent}
use Rattle.ix_journal.specs.Kinds.{IsForeign, IsReady, IsUnopened}
use Rattle.ix_journal.specs.Records.{ClosesAt, IsDamagedFrom, IsManyFrom}
use Rattle.ix_journal.specs.Recovery.{IsJournalWith}
use Rattle.ix_journal.specs.declared.TheConstants.{FRONT_LENGTH}
use Rattle.ix_journal.specs.inside.Counting.{AreNotMany, AreSound, HasBootRoom}
use Rattle.ix_journal.specs.declared.entries.Entry.{Entry}
use Rattle.ix_journal.specs.declared.entries.Marks.{Marks}
use Rattle.ix_store.specs.declared.fault.OpenFault.{OpenFault}
use Rattle.ix_store.specs.declared.fault.OpenFault.TheVariants as fault
use Rattle.ix_store.specs.declared.find.Found.{Found}
use Rattle.ix_store.specs.declared.find.Found.TheVariants as found
use Rattle.ix_store.specs.Opening.{IsNew, IsReadyWith}
use Rattle.ix_store.specs.inside.Reading.{IsHeadOf}

-- an image that might have been left, or one after a write in this range that was cut short
abbrev pub MaybeTorn : ℕ → ℕ → (List ℕ → Type 0) → List ℕ → Type 0
MaybeTorn at count was image =
    was image ⊎ ((before : List ℕ) × was before × Torn at count before image)

-- unfinished or unopened, or a journal of this text without records
abbrev pub IsBegun : List ℕ → List ℕ → Type 0
IsBegun text image =
    IsNew image text ⊎ IsJournalWith image text [] fresh (FRONT_LENGTH + length text)

-- a file with this front is to be made anew, or is ready with the text and this first gate
abbrev pub IsJudged : List ℕ → List ℕ → Option ℕ → Type 0
IsJudged bytes text None = IsNew bytes text
IsJudged bytes text (Some gate) = IsReady bytes text gate

-- what a front tells against opening the file for the text, unless memory ran out
abbrev pub RefusesHead : List ℕ → List ℕ → OpenFault → Type 0
RefusesHead head text fault.NotJournal = IsForeign head
RefusesHead head text (fault.OtherExpression kept) =
    (IsUnopened head kept.items ⊎ IsReadyWith head kept.items) × (kept.items ≢ text)
RefusesHead head text fault.Memory = ⊤
RefusesHead head text _ = ⊥

-- from `first` on the open records tell this history and leave these marks, and the first closed
-- gate is at `gate`
pub record ClosesWith (file : List ℕ) (first : ℕ) (history : PlainHistory) (marks : Marks)
    (gate : ℕ) : Type 0 where
  pub entries : List Entry
  pub closes : ClosesAt file first entries gate
  pub pairs : pairs_of entries ≡ history
  pub marked : marks_of entries ≡ marks

-- the file is to be made anew, and begins so, or keeps this history of the text
abbrev pub IsFound : List ℕ → Found → List ℕ → Type 0
IsFound text (found.New head) file = IsNew file text × IsHeadOf head.items file
IsFound text (found.Journal kept) file =
    IsJournalWith file text kept.history kept.marks kept.gate

-- whatever the site tells, the gate is as near as those of a journal, the actions are actions, they
-- and the boots aren't too many, and the marks are sound
pub record IsSoundly (history : PlainHistory) (marks : Marks) (gate : ℕ) : Type 0 where
  pub near : gate ≤ farthest_gate marks
  pub valid : All (λ (spent : Spent). IsAction spent.1) history
  pub counted : marks.actions ≡ length history
  pub few : AreNotMany marks
  pub sound : AreSound marks

-- so is what was found, and it has room for a boot
abbrev pub IsFoundSound : Found → Type 0
IsFoundSound (found.New head) = ⊤
IsFoundSound (found.Journal kept) =
    IsSoundly kept.history kept.marks kept.gate × HasBootRoom kept.marks

-- the text that is kept is another, unless memory ran out
abbrev pub KeepsOther : List ℕ → List ℕ → OpenFault → Type 0
KeepsOther kept text (fault.OtherExpression other) = (other.items ≡ kept) × (kept ≢ text)
KeepsOther kept text fault.Memory = ⊤
KeepsOther kept text _ = ⊥

-- what following the gates from the first one on meets, unless the disk fails or memory runs out
abbrev pub StopsReading : ℕ → OpenFault → List ℕ → Type 0
StopsReading first (fault.Damaged at) file = IsDamagedFrom file first at
StopsReading first fault.Many file = IsManyFrom file first
StopsReading first fault.Disk file = ⊤
StopsReading first fault.Memory file = ⊤
StopsReading first _ file = ⊥
