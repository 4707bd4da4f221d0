-- What a step over the records of a journal gives.
use Rattle.std.specs.Prelude.{◌≡◌, ◌⊎◌, ℕ, ◌+◌, Bool, true, false, List, [], ◌∷◌, ◌++◌, length}
use Rattle.std.specs.Prelude.{drop, Option, Some, None, Result, Ok, Err}
use Rattle.std.specs.Borrow.{Bor}
use Rattle.ix_journal.specs.declared.entries.Entry.{Entry}
use Rattle.ix_journal.specs.declared.entries.Marks.{Marks}
use Rattle.ix_journal.specs.declared.records.Damaged.{Damaged}
use Rattle.ix_journal.specs.Entries.{MayFollow, behind, entry_text}
use Rattle.ix_journal.specs.Format.{IsOpen, IsClosed, record_of}
use Rattle.ix_journal.specs.Records.{BeginsWithRecord}

-- where records stand: the bytes, the place of a gate, the marks of the records in front of it,
-- and whether damage was told
pub record Standing : Type 0 where
  pub bytes : List ℕ
  pub gate : ℕ
  pub marks : Marks
  pub damaged : Bool

-- at this gate of these bytes, behind records with these marks, nothing told
abbrev pub at_gate : List ℕ → ℕ → Marks → Standing
at_gate bytes gate marks = record { bytes = bytes; gate = gate; marks = marks; damaged = false }

-- an open gate, and behind it the record that says this, which may stand there
pub record StandsBefore (old : Standing) (entry : Entry) : Type 0 where
  pub sound : old.damaged ≡ false
  pub open_there : IsOpen old.bytes old.gate
  pub begins : BeginsWithRecord (drop (old.gate + 1) old.bytes) entry
  pub follows : MayFollow old.marks entry

-- an open gate, and behind it no whole record that may stand there with a gate behind it
pub record StandsBeforeDamage (old : Standing) : Type 0 where
  pub sound : old.damaged ≡ false
  pub open_there : IsOpen old.bytes old.gate
  pub no_record : (entry : Entry) → MayFollow old.marks entry
      → ¬ BeginsWithRecord (drop (old.gate + 1) old.bytes) entry

-- what a step over the records gives, and where they stand then
abbrev pub GivesRecord : Standing → Option (Result (Bor (List ℕ)) Damaged) → Standing → Type 0
-- nothing once damage was told, or at a closed gate
GivesRecord old None new = ((old.damaged ≡ true) ⊎ IsClosed old.bytes old.gate) × (new ≡ old)
-- the text of the record behind an open gate, and the gate behind it is the next
GivesRecord old (Some (Ok text)) new =
    (entry : Entry) × (text.now ≡ entry_text entry) × StandsBefore old entry
    × (new ≡ at_gate old.bytes (old.gate + 1 + length (record_of entry)) (behind old.marks entry))
-- the place behind an open gate
GivesRecord old (Some (Err damage)) new =
    (damage.at ≡ old.gate + 1) × StandsBeforeDamage old × (new ≡ record old { damaged = true })

-- the texts that step after step gives until nothing more comes, and where the records stand then
pub data LendsRecords : Standing → List (List ℕ) → Standing → Type 0 where
  at_end : (old new : Standing) → GivesRecord old None new → LendsRecords old [] new
  going_on : (old next new : Standing) (text : Bor (List ℕ)) (texts : List (List ℕ))
      → GivesRecord old (Some (Ok text)) next → LendsRecords next texts new
      → LendsRecords old (text.now ∷ texts) new

-- step after step the records give these texts, and then they stand there
pub data PassesRecords : Standing → List (List ℕ) → Standing → Type 0 where
  at_first : (old : Standing) → PassesRecords old [] old
  one_more : (old next new : Standing) (texts : List (List ℕ)) (text : Bor (List ℕ))
      → PassesRecords old texts next → GivesRecord next (Some (Ok text)) new
      → PassesRecords old (texts ++ text.now ∷ []) new
