-- What a Slide keeps of a journal that comes in pieces, and what it answers.
use Rattle.std.specs.Prelude.{◌≡◌, ℕ, ◌+◌, ◌*◌, ◌≤◌, false, List, [], ◌∷◌, ◌++◌, length}
use Rattle.std.specs.Prelude.{Some, None, Ok, Err}
use Rattle.std.specs.Borrow.{Bor}
use Rattle.ix_journal.specs.declared.TheConstants.{OPEN, MOST_TEXT}
use Rattle.ix_journal.specs.declared.entries.Marks.{Marks}
use Rattle.ix_journal.specs.declared.records.Damaged.{Damaged}
use Rattle.ix_journal.specs.declared.slide.Slid.{Slid}
use Rattle.ix_journal.specs.declared.slide.Slid.TheVariants as slid
use Rattle.ix_journal.specs.Answers.{Standing, at_gate, GivesRecord}
use Rattle.ix_journal.specs.Kept.{Kept, extended, finished, moved_on, empty_at}

-- the bytes don't tell what stands at their first gate: there is none, or it is open and not both
-- bytes of the record's length are there, or the length may be a record's and the further gate
-- isn't there
abbrev pub WantMore : List ℕ → Type 0
WantMore [] = Unit {0}
WantMore (gate ∷ []) = gate ≡ OPEN
WantMore (gate ∷ high ∷ []) = gate ≡ OPEN
WantMore (gate ∷ high ∷ low ∷ rest) =
    let text_length = 256 * high + low in
    (gate ≡ OPEN) × (text_length ≤ MOST_TEXT) × (length rest ≤ text_length)

-- the end wasn't told, and more bytes are wanted
abbrev pub IsShort : Kept → Type 0
IsShort kept = (kept.ended ≡ false) × WantMore kept.bytes

-- the records give this text at this gate of the bytes, and behind it they have the marks `left`
abbrev pub GivesText : List ℕ → ℕ → Marks → Bor (List ℕ) → Marks → Type 0
GivesText bytes gate marks text left =
    GivesRecord (at_gate bytes gate marks) (Some (Ok text))
    (at_gate bytes (gate + (3 + length text.now)) left)

-- the records at this gate of the bytes, behind those with these marks, give the answer next,
-- `base` added to each place; of `More` they say nothing
abbrev pub RecordsGive : ℕ → List ℕ → ℕ → Marks → Slid → Type 0
RecordsGive base bytes gate marks (slid.Record text) =
    (left : Marks) × GivesText bytes gate marks text left
RecordsGive base bytes gate marks slid.More = Unit {0}
RecordsGive base bytes gate marks (slid.Closed place) =
    (place ≡ base + gate)
    × GivesRecord (at_gate bytes gate marks) None (at_gate bytes gate marks)
RecordsGive base bytes gate marks (slid.Damaged at) =
    (damage : Damaged) × (at ≡ base + damage.at)
    × ((new : Standing) × GivesRecord (at_gate bytes gate marks) (Some (Err damage)) new)

-- what a Slide answers: `More` exactly where it is short, else what the records over the kept bytes
-- give from their first gate on, with the place of the Slide's gate added
abbrev pub TellsSlid : Kept → Slid → Type 0
TellsSlid old slid.More = IsShort old
TellsSlid old (slid.Record text) =
    (¬ IsShort old) × RecordsGive old.gate old.bytes 0 old.marks (slid.Record text)
TellsSlid old (slid.Closed place) =
    (¬ IsShort old) × RecordsGive old.gate old.bytes 0 old.marks (slid.Closed place)
TellsSlid old (slid.Damaged at) =
    (¬ IsShort old) × RecordsGive old.gate old.bytes 0 old.marks (slid.Damaged at)

-- what is kept after an answer: behind a record what stands from its further gate on, with the
-- marks as the record changes them; else the same
abbrev pub Leaves : Kept → Slid → Kept → Type 0
Leaves old (slid.Record text) new =
    (left : Marks) × GivesText old.bytes 0 old.marks text left
    × (new ≡ moved_on old (3 + length text.now) left)
Leaves old slid.More new = new ≡ old
Leaves old (slid.Closed place) new = new ≡ old
Leaves old (slid.Damaged at) new = new ≡ old

-- what a Slide at the first gate comes to by the bytes that it took and the texts that it lent
pub data ComesTo (first : ℕ) : List ℕ → List (List ℕ) → Kept → Type 0 where
  begun : ComesTo first [] [] (empty_at first)
  took : (taken : List ℕ) (texts : List (List ℕ)) (kept : Kept) (piece : List ℕ)
      → ComesTo first taken texts kept → ComesTo first (taken ++ piece) texts (extended kept piece)
  told_the_end : (taken : List ℕ) (texts : List (List ℕ)) (kept : Kept)
      → ComesTo first taken texts kept → ComesTo first taken texts (finished kept)
  lent : (taken : List ℕ) (texts : List (List ℕ)) (kept new : Kept) (text : Bor (List ℕ))
      → ComesTo first taken texts kept → TellsSlid kept (slid.Record text)
      → Leaves kept (slid.Record text) new
      → ComesTo first taken (texts ++ text.now ∷ []) new
