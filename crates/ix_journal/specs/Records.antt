-- The records behind a gate: the open ones, and where they end.
use Rattle.std.specs.Prelude.{◌≡◌, ℕ, ◌+◌, ◌<◌, List, [], ◌∷◌, ◌++◌, length, drop, All}
use Rattle.ix_journal.specs.Entries.{IsEntry, AreFew, InOrder, MayFollow, fresh, marks_of}
use Rattle.ix_journal.specs.Format.{IsOpen, IsClosed, record_of, open_records}
use Rattle.ix_journal.specs.declared.entries.Entry.{Entry}

-- the bytes begin with the whole record that says this, and at least a gate follows it
pub record BeginsWithRecord (bytes : List ℕ) (entry : Entry) : Type 0 where
  pub behind : List ℕ
  pub spells : bytes ≡ record_of entry ++ behind
  pub gate : 0 < length behind
  pub valid : IsEntry entry

-- from `first` up to `gate` stand just these records in order, an open gate in front of each
pub record Holds (bytes : List ℕ) (first : ℕ) (entries : List Entry) (gate : ℕ) : Type 0 where
  pub spells : drop first bytes ≡ open_records entries ++ drop gate bytes
  pub place : gate ≡ first + length (open_records entries)
  pub within : gate < length bytes
  pub valid : All IsEntry entries
  pub order : InOrder fresh entries

-- from `first` on these records are open, and the first closed gate is at `gate`
pub record ClosesAt (bytes : List ℕ) (first : ℕ) (entries : List Entry) (gate : ℕ) : Type 0 where
  pub records : Holds bytes first entries gate
  pub closed : IsClosed bytes gate
  pub few : AreFew entries

-- the gate in front of `at` is open, but no whole record that may follow and a further gate are
-- behind it
pub record IsDamagedFrom (bytes : List ℕ) (first at : ℕ) : Type 0 where
  pub entries : List Entry
  pub gate : ℕ
  pub records : Holds bytes first entries gate
  pub open_there : IsOpen bytes gate
  pub few : AreFew entries
  pub no_record : (entry : Entry) → MayFollow (marks_of entries) entry
      → ¬ BeginsWithRecord (drop (gate + 1) bytes) entry
  pub place : at ≡ gate + 1

-- a whole record that may follow and a further gate are behind an open gate, and with that record
-- there are more than a million actions or more than a million boots
pub record IsManyFrom (bytes : List ℕ) (first : ℕ) : Type 0 where
  pub entries : List Entry
  pub entry : Entry
  pub gate : ℕ
  pub records : Holds bytes first entries gate
  pub open_there : IsOpen bytes gate
  pub few : AreFew entries
  pub begins : BeginsWithRecord (drop (gate + 1) bytes) entry
  pub follows : MayFollow (marks_of entries) entry
  pub many : ¬ AreFew (entries ++ entry ∷ [])
