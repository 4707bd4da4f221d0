-- What a record's text says.
use Rattle.std.specs.Prelude.{◌≡◌, ℕ, List}
use Rattle.ix_journal.specs.Entries.{IsEntry, entry_text}
use Rattle.ix_journal.specs.declared.entries.Entry.{Entry}

-- the text is of a record that says this
pub record SaysEntry (text : List ℕ) (entry : Entry) : Type 0 where
  pub valid : IsEntry entry
  pub same : text ≡ entry_text entry

-- the text is some record's
abbrev pub IsText : List ℕ → Type 0
IsText text = (entry : Entry) × SaysEntry text entry
