-- What the parts of a renewal answer, by the file of the journal.
use Rattle.std.specs.Prelude.{◌≡◌, ◌≢◌, ◌⊎◌, ℕ, ◌<◌, ◌≤◌, ◌^◌, List, [], length, Option, ⊤}
use Rattle.ix_values.specs.PlainAction.{Word}
use Rattle.ix_expr.specs.CanonicalText.{canonical_text}
use Rattle.ix_expr.specs.Form.{Form}
use Rattle.ix_can.specs.TreeOf.{tree_size}
use Rattle.ix_journal.specs.Entries.{marks_of, pairs_of, renewed_of}
use Rattle.ix_journal.specs.Format.{renewed_journal}
use Rattle.ix_journal.specs.History.{PlainHistory, actions_of}
use Rattle.ix_journal.specs.Kinds.{IsForeign, IsReady}
use Rattle.ix_journal.specs.Records.{ClosesAt, IsDamagedFrom, IsManyFrom}
use Rattle.ix_journal.specs.Recovery.{IsDamaged, IsMany}
use Rattle.ix_journal.specs.declared.entries.Entry.{Entry}
use Rattle.ix_journal.specs.declared.entries.Marks.{Marks}
use Rattle.ix_outside.specs.Crashes.{Crashes, LeavesTheFile}
use Rattle.ix_outside.specs.Disk.{Disk, Opened}
use Rattle.ix_engine.specs.Histories.{AreAllowed}
use Rattle.ix_engine.specs.inside.Engine.{EngineState}
use Rattle.ix_store.specs.Opening.{IsNew, IsReadyWith}
use Rattle.ix_store.specs.inside.Renewing.{IsRenewing}
use Rattle.ix_manager.specs.Machine.{count_of}
use Rattle.ix_manager.specs.Starts.{HasText, IsHeavy, IsNoWord}
use Rattle.ix_renew.specs.Renewal.{IfNewFile, IsAboveMost, IsJournalOf, IsRenewal, LeavesNewFile}
use Rattle.ix_renew.specs.Renewal.{OfNewFile}
use Rattle.ix_renew.specs.declared.fault.RenewalFault.{RenewalFault}
use Rattle.ix_renew.specs.declared.fault.RenewalFault.TheVariants as fault
use Rattle.ix_renew.specs.declared.renewing.Renewal.{Renewal}

-- why the journal of this file isn't renewed, under a limit that the initial tree is within; the
-- disk may fail, and the new file have a byte, over any file
abbrev pub RefusesJournal : Form → ℕ → List ℕ → RenewalFault → Type 0
RefusesJournal x limit file (fault.Large most) = ⊥
RefusesJournal x limit file fault.Foreign = IsForeign file
RefusesJournal x limit file (fault.Other kept) =
    HasText file kept.items × (kept.items ≢ canonical_text x)
RefusesJournal x limit file fault.Unopened = IsNew file (canonical_text x)
RefusesJournal x limit file (fault.Damaged at) =
    IsReadyWith file (canonical_text x) × IsDamaged file at
RefusesJournal x limit file fault.Many =
    (IsReadyWith file (canonical_text x) × IsMany file) ⊎ IsAboveMost x file
RefusesJournal x limit file (fault.Word number) =
    (history : PlainHistory) × (marks : Marks) × IsJournalOf x file history marks
    × IsNoWord x limit (actions_of history) number
RefusesJournal x limit file (fault.Heavy number most) =
    (history : PlainHistory) × (marks : Marks) × IsJournalOf x file history marks
    × IsHeavy x limit (actions_of history) number × (most ≡ limit)
RefusesJournal x limit file fault.There = ⊤
RefusesJournal x limit file fault.Disk = ⊤
RefusesJournal x limit file fault.Memory = ⊤

-- why it isn't, under any limit; memory may run out over any file
abbrev pub PreventsRenewal : Form → ℕ → List ℕ → RenewalFault → Type 0
PreventsRenewal x limit file (fault.Large most) = (most ≡ limit) × (limit < tree_size x [])
PreventsRenewal x limit file fault.Memory = ⊤
PreventsRenewal x limit file why = (tree_size x [] ≤ limit) × RefusesJournal x limit file why

-- why its history isn't taken, before anything is made of it
abbrev pub RefusesHistory : Form → ℕ → List ℕ → RenewalFault → Type 0
RefusesHistory x limit file fault.There = ⊥
RefusesHistory x limit file fault.Disk = ⊥
RefusesHistory x limit file why = PreventsRenewal x limit file why

-- why the bytes of a file aren't taken as a journal of this text
abbrev pub RefusesRead : List ℕ → List ℕ → RenewalFault → Type 0
RefusesRead text file fault.Foreign = IsForeign file
RefusesRead text file (fault.Other kept) = HasText file kept.items × (kept.items ≢ text)
RefusesRead text file fault.Unopened = IsNew file text
RefusesRead text file (fault.Damaged at) = IsReadyWith file text × IsDamaged file at
RefusesRead text file fault.Many = IsReadyWith file text × IsMany file
RefusesRead text file fault.Memory = ⊤
RefusesRead text file _ = ⊥

-- what following the gates from the first one on meets
abbrev pub StopsAtRecord : List ℕ → ℕ → RenewalFault → Type 0
StopsAtRecord file first (fault.Damaged at) = IsDamagedFrom file first at
StopsAtRecord file first fault.Many = IsManyFrom file first
StopsAtRecord file first fault.Memory = ⊤
StopsAtRecord file first _ = ⊥

-- the text that is kept, unless memory ran out
abbrev pub IsOfOther : List ℕ → RenewalFault → Type 0
IsOfOther text (fault.Other kept) = kept.items ≡ text
IsOfOther text fault.Memory = ⊤
IsOfOther text _ = ⊥

-- from `first` on the open records tell these actions and leave these marks
pub record TellsActions (file : List ℕ) (first : ℕ) (actions : Word) (marks : Marks) : Type 0 where
  pub entries : List Entry
  pub gate : ℕ
  pub closes : ClosesAt file first entries gate
  pub told : actions ≡ actions_of (pairs_of entries)
  pub marked : marks ≡ marks_of entries

-- a journal of this text whose open records tell these actions and leave these marks
pub record ReadsAs (file text : List ℕ) (actions : Word) (marks : Marks) : Type 0 where
  pub first : ℕ
  pub ready : IsReady file text first
  pub closes : TellsActions file first actions marks

-- the engine holds the history of the expression's journal, which has this count and these boots
pub record RestsAs (x : Form) (limit : ℕ) (file : List ℕ) (engine : EngineState)
    (actions boots : ℕ) : Type 0 where
  pub history : PlainHistory
  pub marks : Marks
  pub journal : IsJournalOf x file history marks
  pub form : engine.form ≡ x
  pub most : engine.limit ≡ limit
  pub word : engine.history ≡ actions_of history
  pub small : tree_size x [] ≤ limit
  pub allowed : AreAllowed x limit (actions_of history)
  pub counted : actions ≡ count_of (renewed_of marks) history
  pub booted : boots ≡ marks.boots
  pub few_actions : actions ≤ 2 ^ 63
  pub few_boots : boots ≤ 2 ^ 63

-- the fault tells of the journal, and comes before any call of the site
abbrev pub IsOfTheJournal : RenewalFault → Type 0
IsOfTheJournal fault.There = ⊥
IsOfTheJournal fault.Disk = ⊥
IsOfTheJournal fault.Memory = ⊥
IsOfTheJournal _ = ⊤

-- What is left of a file that read so when it was opened: if it had a byte, it stays; if it had
-- none, each image that a crash may leave since has none, or is one of a journal that is being
-- renewed.
pub record LeavesFile (text whole : List ℕ) (is : Crashes) (opened : Opened) (now : List ℕ)
    : Type 0 where
  pub stays : opened.file ≢ [] → now ≡ opened.file
  pub stays_left : opened.file ≢ [] → (image : List ℕ) → is.left opened.tick image
      → image ≡ opened.file
  pub leaves : opened.file ≡ [] → (image : List ℕ) → is.left opened.tick image
      → (image ≡ []) ⊎ IsRenewing text whole image

-- what is left of the file of this name
abbrev pub LeavesBytes : List ℕ → List ℕ → List ℕ → Option Disk → Crashes → Type 0
LeavesBytes text whole name disk is = IfNewFile name (LeavesFile text whole is) disk

-- what a renewal of the journal in a file leaves of the new file of this name
abbrev pub LeavesNew : Form → ℕ → List ℕ → List ℕ → Option Disk → Crashes → Type 0
LeavesNew x limit file name disk is =
    IfNewFile name (λ opened now. LeavesNewFile x limit file opened now is) disk

-- what is told was made: the new file had no byte, and is the whole journal, which alone may be
-- left
pub record Renews (x : Form) (limit : ℕ) (file name : List ℕ) (told : Renewal)
    (disk : Option Disk) (is : Crashes) : Type 0 where
  pub carried : Word
  pub renewal : IsRenewal x limit file carried told.actions told.boots
  pub number : told.carried ≡ length carried
  pub made : OfNewFile name (λ opened now. (opened.file ≡ [])
      × (now ≡ renewed_journal (canonical_text x) carried told.actions told.boots)) disk
  pub left : LeavesTheFile disk is.now
