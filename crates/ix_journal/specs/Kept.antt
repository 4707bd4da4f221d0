-- A Slide as contracts see it.
use Rattle.std.specs.Prelude.{ℕ, ◌+◌, Bool, true, false, List, [], ◌++◌, drop}
use Rattle.ix_journal.specs.Entries.{fresh}
use Rattle.ix_journal.specs.declared.entries.Marks.{Marks}

-- the place of a gate, the marks of the records in front of it, the bytes kept from that gate on,
-- and whether the end was told
pub record Kept : Type 0 where
  pub gate : ℕ
  pub marks : Marks
  pub bytes : List ℕ
  pub ended : Bool

-- at this gate, behind records with these marks, with these bytes
abbrev pub kept_at : ℕ → Marks → List ℕ → Bool → Kept
kept_at gate marks bytes ended =
    record { gate = gate; marks = marks; bytes = bytes; ended = ended }

-- at this gate, in front of all records, with no byte
abbrev pub empty_at : ℕ → Kept
empty_at gate = kept_at gate fresh [] false

-- these bytes come behind those kept
abbrev pub extended : Kept → List ℕ → Kept
extended kept piece = kept_at kept.gate kept.marks (kept.bytes ++ piece) kept.ended

-- no more bytes come
abbrev pub finished : Kept → Kept
finished kept = kept_at kept.gate kept.marks kept.bytes true

-- so many bytes further on, behind records with these marks
abbrev pub moved_on : Kept → ℕ → Marks → Kept
moved_on kept count marks = kept_at (kept.gate + count) marks (drop count kept.bytes) kept.ended
