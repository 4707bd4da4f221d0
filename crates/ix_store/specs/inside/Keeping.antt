-- A store beside its site.
use Rattle.std.specs.Prelude.{◌≡◌, ◌⊎◌, ℕ, ◌+◌, List, ◌++◌, length}
use Rattle.std.specs.Option.{ForSome}
use Rattle.ix_journal.specs.Entries.{behind, pair_of}
use Rattle.ix_journal.specs.History.{PlainHistory}
use Rattle.ix_journal.specs.Recovery.{IsJournalWith}
use Rattle.ix_journal.specs.declared.entries.Entry.{Entry}
use Rattle.ix_journal.specs.declared.entries.Entry.TheVariants as entry
use Rattle.ix_journal.specs.declared.entries.Marks.{Marks}
use Rattle.ix_outside.specs.Crashes.{Crashes}
use Rattle.ix_outside.specs.SiteState.{SiteState}
use Rattle.ix_store.specs.Keeping.{Keeping}

-- A store fits a site with a text and a history: it counts the actions, and where the disk is told,
-- each image that a crash may leave now is their journal, with the store's marks, and closed where
-- the store keeps its gate.
pub record FitsFile (site : SiteState) (crashes : Crashes) (store : Keeping) (text : List ℕ)
    (history : PlainHistory)
    : Type 0 where
  pub count : store.marks.actions ≡ length history
  pub images : ForSome site.disk (λ disk. (image : List ℕ) → crashes.now image
      → IsJournalWith image text history store.marks store.gate)

-- the marks behind one boot more
abbrev pub booted : Marks → Marks
booted marks = behind marks (entry.Boot (marks.boots + 1))

-- a journal of this text with the history, and with as many boots or one more
abbrev pub IsBootedOrNot : List ℕ → PlainHistory → Marks → List ℕ → Type 0
IsBootedOrNot text history marks image =
    (gate : ℕ) × (IsJournalWith image text history marks gate
    ⊎ IsJournalWith image text history (booted marks) gate)

-- a journal of this text with the history and the marks, or with what one record more makes of them
abbrev pub IsWithOrWithout : List ℕ → PlainHistory → Marks → Entry → List ℕ → Type 0
IsWithOrWithout text history marks entry image =
    (gate : ℕ) × (IsJournalWith image text history marks gate
    ⊎ IsJournalWith image text (history ++ pair_of entry) (behind marks entry) gate)
