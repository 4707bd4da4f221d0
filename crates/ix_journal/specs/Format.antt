-- The bytes of a journal: its gates, its header and its records.
use Rattle.std.specs.Prelude.{◌≡◌, ◌≢◌, ◌⊎◌, ℕ, ◌+◌, ◌-◌, ◌*◌, Option, Some, None, List, [], ◌∷◌}
use Rattle.std.specs.Prelude.{◌++◌, length, codes}
use Rattle.std.specs.Prelude.{slice_get, map}
use Rattle.std.specs.List.{flat_map}
use Rattle.byteorder.specs.Endian.{big_bytes}
use Rattle.ix_values.specs.PlainAction.{Word}
use Rattle.ix_journal.specs.Entries.{entry_text, renewed_of}
use Rattle.ix_journal.specs.declared.TheConstants.{CLOSED, OPEN}
use Rattle.ix_journal.specs.declared.entries.Entry.{Entry}
use Rattle.ix_journal.specs.declared.entries.Entry.TheVariants as entry
use Rattle.ix_journal.specs.declared.entries.Marks.{Marks}
use Rattle.ix_journal.specs.declared.entries.Renewed.{Renewed}

-- the gate at this place is there, and is open
abbrev pub IsOpen : List ℕ → ℕ → Type 0
IsOpen bytes gate = slice_get bytes gate ≡ Some OPEN

-- the gate at this place is there, and isn't open
abbrev pub IsClosed : List ℕ → ℕ → Type 0
IsClosed bytes gate = (byte : ℕ) × (slice_get bytes gate ≡ Some byte) × (byte ≢ OPEN)

-- the length of a text in two bytes, the higher first, and the text
abbrev pub with_length : List ℕ → List ℕ
with_length text = big_bytes 2 (length text) ++ text

-- the digit of a version that is read: 1, 2 or 3
abbrev pub IsVersion : ℕ → Type 0
IsVersion version = (version ≡ 49) ⊎ ((version ≡ 50) ⊎ (version ≡ 51))

-- the magic, which ends with the digit of the version, and the text with its length
abbrev pub header : ℕ → List ℕ → List ℕ
header version text = codes "IXJ" ++ version ∷ with_length text

-- the text of a record with its length
abbrev pub record_of : Entry → List ℕ
record_of entry = with_length (entry_text entry)

-- these records in order, an open gate in front of each
abbrev pub open_records : List Entry → List ℕ
open_records entries = flat_map (λ entry. OPEN ∷ record_of entry) entries

-- how many bytes a renewal and its gate have at most, where there is one
abbrev pub renewal_room : Option Renewed → ℕ
renewal_room None = 0
renewal_room (Some renewed) = 50

-- how far from the begin the gate behind records with these marks can stand: at most 65,542 bytes
-- are in front of the first one, an action with a ticket and its gate have at most 209, and a boot
-- and its gate at most 27
abbrev pub farthest_gate : Marks → ℕ
farthest_gate marks =
    65542 + renewal_room marks.renewal + 209 * marks.actions
    + 27 * (marks.boots - (renewed_of marks).boots)

-- the records of a renewed journal before anything is appended: the carried actions, and how many
-- actions and boots of the journals before they stand for
abbrev pub renewed_records : Word → ℕ → ℕ → List Entry
renewed_records carried actions boots =
    map entry.Plain carried ++ entry.Renewed actions boots ∷ []

-- such a journal: an open head gate, the header of version 3, these records, and one closed gate
abbrev pub renewed_journal : List ℕ → Word → ℕ → ℕ → List ℕ
renewed_journal text carried actions boots =
    OPEN ∷ header 51 text ++ open_records (renewed_records carried actions boots) ++ CLOSED ∷ []
