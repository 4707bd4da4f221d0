-- What a replay and a serve make of their journal.
use Rattle.std.specs.Prelude.{◌≡◌, ◌≢◌, ◌⊎◌, ℕ, ◌+◌, List, [], ◌++◌, length, codes, decimal, ⊤}
use Rattle.std.specs.Prelude.{Option, None, Some, IsSome}
use Rattle.ix_journal.specs.declared.entries.Renewed.{Renewed}
use Rattle.ix_journal.specs.History.{PlainHistory, actions_of}
use Rattle.ix_expr.specs.CanonicalText.{canonical_text}
use Rattle.ix_expr.specs.Form.{Form}
use Rattle.ix_journal.specs.Kinds.{IsForeign}
use Rattle.ix_journal.specs.Recovery.{HoldsBoots, IsDamaged, IsFullOfBoots, IsMany}
use Rattle.ix_journal.specs.declared.TheConstants.{MOST_BOOTS}
use Rattle.ix_outside.specs.Crashes.{Crashes}
use Rattle.ix_outside.specs.Disk.{Disk, Opened}
use Rattle.ix_outside.specs.Files.{Listing}
use Rattle.ix_outside.specs.SiteState.{SiteState}
use Rattle.ix_store.specs.Opening.{IsReadyWith}
use Rattle.ix_manager.specs.Images.{EndsAs, IsStartable, Keeps, with_failed}
use Rattle.ix_manager.specs.Machine.{start_of}
use Rattle.ix_manager.specs.Runs.{Opening, going}
use Rattle.ix_manager.specs.Starts.{HasText, IsHeavy, IsNoWord, OpensAs}
use Rattle.ix_manager.specs.Runs.{opening_of}
use Rattle.ix_manage.specs.ActionLines.{line}
use Rattle.ix_cli.specs.Words.{Job}
use Rattle.ix_manage.specs.Command.{expression_of, journal_of, limit_of}
use Rattle.ix_manage.specs.Session.{Session}
use Rattle.ix_manage.specs.Trace.{ReadsForm}

-- why no run of the expression under the limit starts from a file, as the last line says it
pub data RefusesFile (x : Form) (limit : ℕ) (file : List ℕ) : List ℕ → Type 0 where
  foreign : IsForeign file → RefusesFile x limit file (codes "foreign")
  other : {text : List ℕ} → HasText file text → text ≢ canonical_text x
      → RefusesFile x limit file (codes "other " ++ text)
  damaged : {at : ℕ} → IsReadyWith file (canonical_text x) → IsDamaged file at
      → RefusesFile x limit file (codes "damaged " ++ decimal at)
  many : IsReadyWith file (canonical_text x) → IsMany file ⊎ IsFullOfBoots file
      → RefusesFile x limit file (codes "many")
  word : {history : PlainHistory} {number : ℕ} → OpensAs x file history
      → IsNoWord x limit (actions_of history) number
      → RefusesFile x limit file (codes "word " ++ decimal number)
  large : {history : PlainHistory} {number : ℕ} → OpensAs x file history
      → IsHeavy x limit (actions_of history) number
      → RefusesFile x limit file
      (codes "large " ++ decimal number ++ codes " " ++ decimal limit)

-- the line that says so
abbrev pub journal_line : List ℕ → List ℕ
journal_line why = line (codes "refused journal " ++ why)

-- a file was opened, and this holds of how it read then
abbrev pub OfOpened : (List ℕ → Type 0) → Option Opened → Type 0
OfOpened P None = ⊥
OfOpened P (Some opened) = P opened.file

-- where the disk is told, a file was opened, and this holds of how it read then
abbrev pub OfJournal : (List ℕ → Type 0) → Option Disk → Type 0
OfJournal P None = ⊤
OfJournal P (Some disk) = OfOpened P disk.opened

-- the session that a run had; where none came to be, the one from its opening that took nothing
abbrev pub session_of : Opening → Option Session → Session
session_of opening None = record {
  opening = opening;
  taken = [];
  answers = [];
  last = start_of opening.history opening.renewed opening.boot;
  ending = going;
}
session_of opening (Some session) = session

-- A run of the opening's expression can start from the image: in the opening's boot, of which there
-- is no record, or in the next one; or there is that record, and no boot may follow.
pub data Reopens (opening : Opening) (image : List ℕ) : Type 0 where
  again : (kept : PlainHistory)
      → IsStartable (opening_of opening.form opening.limit kept opening.renewed opening.boot) image
      → Reopens opening image
  next : (kept : PlainHistory)
      → IsStartable (opening_of opening.form opening.limit kept opening.renewed
      (opening.boot + 1)) image
      → Reopens opening image
  never : opening.boot ≡ opening.renewed.boots + MOST_BOOTS
      → HoldsBoots image opening.renewed opening.boot → Reopens opening image

-- The journal holds a session's history: its file does, and so does each image that a crash now may
-- leave; and each image that a crash since it was attached may have left keeps all that it held
-- then, and no others than the confirmed actions, in order, and the boots up to the session's, or
-- one less, so that a run can start from it again.
pub record HoldsHistory (least : ℕ) (session : Session) (opened : Opened) (is : Crashes)
    : Type 0 where
  pub ends : (image : List ℕ) → is.now image → EndsAs session.ending session.last.history image
  pub keeps : (image : List ℕ) → is.left opened.tick image
      → Keeps session.opening.form least (with_failed session.ending session.last.history) image
  pub reopens : (image : List ℕ) → is.left opened.tick image → Reopens session.opening image

-- a run from a file that is startable: the session is from what the file recovers, and is held; and
-- where one came to be, each image that a crash now may leave holds its boot
pub record GoesOnFrom (opening : Opening) (session : Option Session) (opened : Opened)
    (is : Crashes) : Type 0 where
  pub from : (session_of opening session).opening ≡ opening
  pub boots : IsSome session → (image : List ℕ) → is.now image
      → HoldsBoots image opening.renewed opening.boot
  pub holds : HoldsHistory (length opening.history) (session_of opening session) opened is

-- a file that isn't startable is left alone: no event is taken, and it and nothing else is left
pub record LeavesAlone (session : Option Session) (file : List ℕ) (opened : Opened) (is : Crashes)
    : Type 0 where
  pub none_taken : session ≡ None
  pub file_is : file ≡ opened.file
  pub only : (image : List ℕ) → is.now image → image ≡ opened.file
  pub only_since : (image : List ℕ) → is.left opened.tick image → image ≡ opened.file

-- what a run of the expression under the limit makes of the file that it opened
pub record UsesJournal (x : Form) (limit : ℕ) (session : Option Session) (file : List ℕ)
    (opened : Opened) (is : Crashes) : Type 0 where
  pub startable : (history : PlainHistory) (renewed : Renewed) (boot : ℕ)
      → IsStartable (opening_of x limit history renewed boot) opened.file
      → GoesOnFrom (opening_of x limit history renewed boot) session opened is
  pub other : ((history : PlainHistory) (renewed : Renewed) (boot : ℕ)
      → ¬ IsStartable (opening_of x limit history renewed boot) opened.file)
      → LeavesAlone session file opened is

-- A run opened nothing and took no event; or it opened the file of its journal's name, and uses
-- it by the form that the expression's file stands for.
abbrev pub OpensJournal : Option Listing → ℕ → List ℕ → List ℕ → Option Session → Disk → Crashes
    → Option Opened → Type 0
OpensJournal files limit expression journal session disk is None = session ≡ None
OpensJournal files limit expression journal session disk is (Some opened) =
    (opened.name ≡ journal)
    × ((x : Form) × ReadsForm files expression x
    × UsesJournal x limit session disk.file opened is)

-- what a job makes of its journal, where it has one, and where the site tells its disk before and
-- behind it
abbrev pub OnJournal : Option Listing → Job → SiteState → SiteState → Crashes → Option Session
    → Type 0
OnJournal files job before after is session = (expression journal : List ℕ)
    → expression_of job ≡ Some expression → journal_of job ≡ Some journal
    → (old new : Disk) → before.disk ≡ Some old → after.disk ≡ Some new
    → OpensJournal files (limit_of job) expression journal session new is new.opened
