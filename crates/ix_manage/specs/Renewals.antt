-- What `renew` answers, and what it makes of its files.
use Rattle.std.specs.Prelude.{◌≡◌, ◌≢◌, ◌⊎◌, ℕ, ◌≤◌, List, [], ◌++◌, length, codes, decimal}
use Rattle.std.specs.Prelude.{Option, ⊤}
use Rattle.ix_values.specs.PlainAction.{Word}
use Rattle.ix_expr.specs.CanonicalText.{canonical_text}
use Rattle.ix_expr.specs.Form.{Form}
use Rattle.ix_journal.specs.Entries.{renewed_of}
use Rattle.ix_journal.specs.Format.{renewed_journal}
use Rattle.ix_journal.specs.History.{PlainHistory, actions_of}
use Rattle.ix_journal.specs.Kinds.{IsForeign}
use Rattle.ix_journal.specs.Recovery.{IsDamaged, IsMany}
use Rattle.ix_journal.specs.declared.entries.Marks.{Marks}
use Rattle.ix_outside.specs.Crashes.{Crashes}
use Rattle.ix_outside.specs.Disk.{Disk}
use Rattle.ix_outside.specs.Files.{Listing, HasFile, HasLonger}
use Rattle.ix_store.specs.Opening.{IsNew, IsReadyWith}
use Rattle.ix_manager.specs.Images.{EachPrefixIsWithin}
use Rattle.ix_manager.specs.Machine.{count_of}
use Rattle.ix_manager.specs.Starts.{HasText, IsHeavy, IsNoWord}
use Rattle.ix_renew.specs.Renewal.{IfNewFile, IsAboveMost, IsJournalOf, LeavesNewFile, OfNewFile}
use Rattle.ix_renew.specs.Renewal.{most_counted}
use Rattle.ix_cli.specs.Words.{Job, Names, renew}
use Rattle.ix_manage.specs.ActionLines.{line}
use Rattle.ix_manage.specs.Trace.{ReadsForm}

-- the most bytes that the records of a journal can have up to the first closed gate
abbrev pub most_journal_bytes : ℕ
most_journal_bytes = 237065593

-- the file of this name has these bytes, and no more than a journal may
pub record ReadsJournal (files : Option Listing) (name bytes : List ℕ) : Type 0 where
  pub file : HasFile files name bytes
  pub short : length bytes ≤ most_journal_bytes

-- the file of this name has more
abbrev pub HasLongJournal : Option Listing → List ℕ → Type 0
HasLongJournal files name = HasLonger files name most_journal_bytes

-- why the journal of a file isn't renewed for the expression under the limit, as the last line says
-- it
pub data RefusesRenewal (x : Form) (limit : ℕ) (file : List ℕ) : List ℕ → Type 0 where
  foreign : IsForeign file → RefusesRenewal x limit file (codes "foreign")
  other : {text : List ℕ} → HasText file text → text ≢ canonical_text x
      → RefusesRenewal x limit file (codes "other " ++ text)
  unopened : IsNew file (canonical_text x) → RefusesRenewal x limit file (codes "unopened")
  damaged : {at : ℕ} → IsReadyWith file (canonical_text x) → IsDamaged file at
      → RefusesRenewal x limit file (codes "damaged " ++ decimal at)
  many : IsReadyWith file (canonical_text x) → IsMany file
      → RefusesRenewal x limit file (codes "many")
  above : IsAboveMost x file → RefusesRenewal x limit file (codes "many")
  word : {history : PlainHistory} {marks : Marks} {number : ℕ} → IsJournalOf x file history marks
      → IsNoWord x limit (actions_of history) number
      → RefusesRenewal x limit file (codes "word " ++ decimal number)
  large : {history : PlainHistory} {marks : Marks} {number : ℕ} → IsJournalOf x file history marks
      → IsHeavy x limit (actions_of history) number
      → RefusesRenewal x limit file
      (codes "large " ++ decimal number ++ codes " " ++ decimal limit)

-- the line of a renewal that was made: what it stands for, and how many actions it carries
abbrev pub renewed_line : ℕ → ℕ → ℕ → List ℕ
renewed_line actions boots carried = line (
    codes "renewed " ++ decimal actions ++ codes " " ++ decimal boots ++ codes " carried "
    ++ decimal carried
    )

-- the new file of this name has a byte
abbrev pub HasByte : List ℕ → Option Disk → Type 0
HasByte name disk = OfNewFile name (λ opened now. opened.file ≢ []) disk

-- the new file of this name had none, and is now the journal that was made
abbrev pub IsMade : List ℕ → Form → Word → ℕ → ℕ → Option Disk → Type 0
IsMade name x carried actions boots disk =
    OfNewFile name (λ opened now. (opened.file ≡ [])
    × (now ≡ renewed_journal (canonical_text x) carried actions boots)) disk

-- What a renew leaves of its new file, where it opened it: by the form that the expression's file
-- stands for, and the bytes of its journal's file. The other jobs have no new file.
abbrev pub OnNewFile : Option Listing → Job → Option Disk → Crashes → Type 0
OnNewFile files (renew expression journal new limit) disk is =
    IfNewFile new (λ opened now. (x : Form) × (bytes : List ℕ)
    × ReadsForm files expression x × ReadsJournal files journal bytes
    × LeavesNewFile x limit bytes opened now is) disk
OnNewFile files _ disk is = ⊤

-- the journal of a file can be renewed
pub record CanBeRenewed (x : Form) (limit : ℕ) (file : List ℕ) : Type 0 where
  pub history : PlainHistory
  pub marks : Marks
  pub journal : IsJournalOf x file history marks
  pub within : EachPrefixIsWithin x limit (actions_of history)
  pub few_actions : count_of (renewed_of marks) history ≤ most_counted
  pub few_boots : marks.boots ≤ most_counted

-- the words name a renew whose journal's file is too long
abbrev pub NamesLongJournal : List (List ℕ) → Option Listing → Type 0
NamesLongJournal words files =
    (expression journal new : List ℕ) × (limit : ℕ)
    × Names words (renew expression journal new limit) × HasLongJournal files journal
