-- What a store keeps of its journal.
use Rattle.std.specs.Prelude.{ℕ, Bool}
use Rattle.ix_journal.specs.declared.entries.Marks.{Marks}

-- the place of the closed gate, what the records in front of it leave, and whether an append failed
pub record Keeping : Type 0 where
  pub gate : ℕ
  pub marks : Marks
  pub failed : Bool
