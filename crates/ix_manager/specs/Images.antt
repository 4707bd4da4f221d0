-- What an image of a journal is to a run of the machine: one that a crash left, or the file itself.
use Rattle.std.specs.Prelude.{◌≡◌, ◌⊎◌, ℕ, ◌+◌, ◌<◌, ◌≤◌, List, [], ◌∷◌, ◌++◌, length, take}
use Rattle.ix_values.specs.PlainAction.{Word}
use Rattle.ix_journal.specs.History.{PlainHistory, actions_of}
use Rattle.ix_expr.specs.CanonicalText.{canonical_text}
use Rattle.ix_expr.specs.Form.{Form}
use Rattle.ix_expr.specs.Meaning.{IsPartial}
use Rattle.ix_can.specs.TreeOf.{tree_size}
use Rattle.ix_journal.specs.Recovery.{HoldsBoots, IsJournalWith, Recovers}
use Rattle.ix_journal.specs.declared.TheConstants.{MOST_BOOTS}
use Rattle.ix_journal.specs.declared.entries.Marks.{Marks}
use Rattle.ix_store.specs.Opening.{IsNew}
use Rattle.ix_manager.specs.Runs.{Opening, Ending, going, stopped, failed}

-- An image that the expression may open: unfinished, or with the expression's canonical text never
-- opened, or a journal of that text, which is neither damaged nor of too many records.
pub data IsOwn (x : Form) (image : List ℕ) : Type 0 where
  new : IsNew image (canonical_text x) → IsOwn x image
  ready : (history : PlainHistory) (marks : Marks) (gate : ℕ)
      → IsJournalWith image (canonical_text x) history marks gate → IsOwn x image

-- the word is partial, and the Size of its tree is within the limit
pub record IsWithin (x : Form) (limit : ℕ) (word : Word) : Type 0 where
  pub partial : IsPartial x [] word
  pub size : tree_size x word ≤ limit

-- each prefix of the word is within the limit, the empty one and the whole word too
abbrev pub EachPrefixIsWithin : Form → ℕ → Word → Type 0
EachPrefixIsWithin x limit word = (count : ℕ) → IsWithin x limit (take count word)

-- An image that the opening can start from: it is the expression's, and recovers the opening's
-- history, each prefix of whose actions is within the limit. It stands for what the opening says,
-- fewer than a million of its records are boots, and the opening's boot is the next one.
pub record IsStartable (opening : Opening) (image : List ℕ) : Type 0 where
  pub own : IsOwn opening.form image
  pub recovers : Recovers image opening.history
  pub within : EachPrefixIsWithin opening.form opening.limit (actions_of opening.history)
  pub boots : ℕ
  pub holds : HoldsBoots image opening.renewed boots
  pub few : boots < opening.renewed.boots + MOST_BOOTS
  pub next : opening.boot ≡ boots + 1

-- the history, with the ticket and the action of a confirm that failed behind it
abbrev pub with_failed : Ending → PlainHistory → PlainHistory
with_failed going history = history
with_failed stopped history = history
with_failed (failed spent) history = history ++ spent ∷ []

-- an image of the file after a run that ended so with this history: it recovers the history, or,
-- after a confirm that failed, maybe the history with the confirm's ticket and action behind it
abbrev pub EndsAs : Ending → PlainHistory → List ℕ → Type 0
EndsAs going history image = Recovers image history
EndsAs stopped history image = Recovers image history
EndsAs (failed spent) history image =
    Recovers image history ⊎ Recovers image (history ++ spent ∷ [])

-- an image that keeps at least so many actions of this history, the first ones, and no others
pub record Keeps (x : Form) (least : ℕ) (history : PlainHistory) (image : List ℕ) : Type 0 where
  pub own : IsOwn x image
  pub kept : PlainHistory
  pub recovers : Recovers image kept
  pub rest : PlainHistory
  pub prefix : kept ++ rest ≡ history
  pub long : least ≤ length kept
