-- Files from which a store is opened.
use Rattle.std.specs.Prelude.{◌⊎◌, ℕ, List}
use Rattle.ix_journal.specs.History.{PlainHistory}
use Rattle.ix_journal.specs.Entries.{renewed_of}
use Rattle.ix_journal.specs.Recovery.{HoldsBoots, Recovers}
use Rattle.ix_journal.specs.declared.entries.Marks.{Marks}
use Rattle.ix_store.specs.Opening.{IsNew, IsReadyWith}

-- unfinished, or unopened or ready with this text
abbrev pub IsOwnFile : List ℕ → List ℕ → Type 0
IsOwnFile file text = IsNew file text ⊎ IsReadyWith file text

-- the journal of this text is opened from the file, with this history and these marks
pub record Opens (file text : List ℕ) (history : PlainHistory) (marks : Marks) : Type 0 where
  pub own : IsOwnFile file text
  pub recovers : Recovers file history
  pub holds : HoldsBoots file (renewed_of marks) marks.boots
