-- What a renewal makes of a journal that rests, and why it makes nothing.
use Rattle.std.specs.Prelude.{◌≡◌, ◌≢◌, ◌⊎◌, ℕ, ◌<◌, ◌≤◌, ◌^◌, List, [], Option, None, Some, All, ⊤}
use Rattle.ix_values.specs.PlainAction.{Word}
use Rattle.ix_values.specs.Texts.{IsAction}
use Rattle.ix_journal.specs.Entries.{or_none, renewed_of}
use Rattle.ix_journal.specs.Format.{renewed_journal}
use Rattle.ix_journal.specs.History.{PlainHistory, actions_of}
use Rattle.ix_journal.specs.Recovery.{IsJournalWith}
use Rattle.ix_journal.specs.declared.entries.Marks.{Marks}
use Rattle.ix_expr.specs.CanonicalText.{canonical_text}
use Rattle.ix_expr.specs.Form.{Form}
use Rattle.ix_outside.specs.Crashes.{Crashes}
use Rattle.ix_outside.specs.Disk.{Disk, Opened}
use Rattle.ix_manager.specs.Images.{EachPrefixIsWithin, IsStartable}
use Rattle.ix_manager.specs.Machine.{count_of}
use Rattle.ix_manager.specs.Runs.{opening_of}
use Rattle.ix_renew.specs.Carried.{IsCarriedFor}

-- the file is an open journal of the expression, whose records tell this history and leave these
-- marks
pub record IsJournalOf (x : Form) (file : List ℕ) (history : PlainHistory) (marks : Marks)
    : Type 0 where
  pub gate : ℕ
  pub journal : IsJournalWith file (canonical_text x) history marks gate

-- the most actions and the most boots that a journal may stand for
abbrev pub most_counted : ℕ
most_counted = 2 ^ 63

-- it has more of the one or of the other
pub record IsAboveMost (x : Form) (file : List ℕ) : Type 0 where
  pub history : PlainHistory
  pub marks : Marks
  pub journal : IsJournalOf x file history marks
  pub above : (most_counted < count_of (renewed_of marks) history) ⊎ (most_counted < marks.boots)

-- The word, which is of actions, may be carried in place of the history of the journal in this
-- file, each prefix of which is within the limit; it stands for these actions and boots, which are
-- the journal's count and the number of its last boot.
pub record IsRenewal (x : Form) (limit : ℕ) (file : List ℕ) (carried : Word) (actions boots : ℕ)
    : Type 0 where
  pub history : PlainHistory
  pub marks : Marks
  pub journal : IsJournalOf x file history marks
  pub within : EachPrefixIsWithin x limit (actions_of history)
  pub texts : All IsAction carried
  pub carries : IsCarriedFor x limit (actions_of history) carried
  pub counted : actions ≡ count_of (renewed_of marks) history
  pub booted : boots ≡ marks.boots
  pub few_actions : actions ≤ most_counted
  pub few_boots : boots ≤ most_counted

-- the image is a whole renewed journal of the one in this file
pub record IsRenewed (x : Form) (limit : ℕ) (file image : List ℕ) : Type 0 where
  pub carried : Word
  pub actions : ℕ
  pub boots : ℕ
  pub renewal : IsRenewal x limit file carried actions boots
  pub whole : image ≡ renewed_journal (canonical_text x) carried actions boots

-- a run starts from the image as from a new journal: with no history, and in boot 1
abbrev pub StartsAnew : Form → ℕ → List ℕ → Type 0
StartsAnew x limit image = IsStartable (opening_of x limit [] (or_none None) 1) image

-- What is left of the new file, which read so when it was opened, and of which this is left now:
-- one that has a byte stays; and of one that has none each image that a crash may leave since is
-- that of a new journal, or is whole.
pub record LeavesNewFile (x : Form) (limit : ℕ) (file : List ℕ) (opened : Opened) (now : List ℕ)
    (is : Crashes) : Type 0 where
  pub stays : opened.file ≢ [] → now ≡ opened.file
  pub stays_left : opened.file ≢ [] → (image : List ℕ) → is.left opened.tick image
      → image ≡ opened.file
  pub leaves : opened.file ≡ [] → (image : List ℕ) → is.left opened.tick image
      → StartsAnew x limit image ⊎ IsRenewed x limit file image

-- a file of this name was opened, and this holds of that and of how it reads now
abbrev pub OfOpenedAs : List ℕ → (Opened → List ℕ → Type 0) → Option Opened → List ℕ → Type 0
OfOpenedAs name P None now = ⊥
OfOpenedAs name P (Some opened) now = (opened.name ≡ name) × P opened now

-- so it is where the disk is told
abbrev pub OfNewFile : List ℕ → (Opened → List ℕ → Type 0) → Option Disk → Type 0
OfNewFile name P None = ⊤
OfNewFile name P (Some disk) = OfOpenedAs name P disk.opened disk.file

-- this holds of a file that was opened, if one was, and that has this name
abbrev pub IfOpenedAs : List ℕ → (Opened → List ℕ → Type 0) → Option Opened → List ℕ → Type 0
IfOpenedAs name P None now = ⊤
IfOpenedAs name P (Some opened) now = (opened.name ≡ name) × P opened now

-- so it is where the disk is told
abbrev pub IfNewFile : List ℕ → (Opened → List ℕ → Type 0) → Option Disk → Type 0
IfNewFile name P None = ⊤
IfNewFile name P (Some disk) = IfOpenedAs name P disk.opened disk.file
