-- How a run begins with its journal.
use Rattle.std.specs.Prelude.{◌≡◌, ◌≤◌, true, ℕ, List, [], length, Option, None, Some, IsSome}
use Rattle.std.specs.Option.{ForSome}
use Rattle.ix_expr.specs.Form.{Form}
use Rattle.ix_can.specs.TreeOf.{tree_size}
use Rattle.ix_cli.specs.Words.{Job}
use Rattle.ix_outside.specs.Contents.{Sends}
use Rattle.ix_outside.specs.Crashes.{Crashes}
use Rattle.ix_outside.specs.Disk.{IsOpened}
use Rattle.ix_outside.specs.Files.{Listing}
use Rattle.ix_outside.specs.FilesState.{FilesState}
use Rattle.ix_outside.specs.SinkState.{SinkState}
use Rattle.ix_outside.specs.SiteState.{SiteState, OnlyDisk}
use Rattle.ix_outside.specs.inside.DiskCalls.{KeepsOpened}
use Rattle.ix_manager.specs.Handled.{ManagerState, started}
use Rattle.ix_manager.specs.Images.{IsStartable, Keeps}
use Rattle.ix_manager.specs.Runs.{opening_of}
use Rattle.ix_manager.specs.Wire.{unmarked}
use Rattle.ix_manager.specs.inside.OverSite.{FitsSite}
use Rattle.ix_manager.specs.inside.Serving.{ServesSince}
use Rattle.ix_manage.specs.Around.{around_of}
use Rattle.ix_manage.specs.Command.{expression_of, journal_of, limit_of}
use Rattle.ix_manage.specs.Ends.{JobEnds, ReadsRest}
use Rattle.ix_manage.specs.Journal.{OnJournal, Reopens}
use Rattle.ix_manage.specs.Session.{Session}
use Rattle.ix_manage.specs.Trace.{ReadsForm}
use Rattle.ix_manage.specs.declared.early_end.EarlyEnd.{EarlyEnd}
use Rattle.ix_manage.specs.inside.Leaves.{StopsAfter}

-- a job is of a file that stands for the expression, under the limit, and keeps this journal; what
-- else it reads is read
pub record IsJobOf (x : Form) (limit : ℕ) (journal : List ℕ) (files : Option Listing) (job : Job)
    : Type 0 where
  pub expression : List ℕ
  pub of_expression : expression_of job ≡ Some expression
  pub reads : ReadsForm files expression x
  pub limit_is : limit_of job ≡ limit
  pub has_journal : journal_of job ≡ Some journal
  pub rest : ReadsRest files job

-- how a job ends of which no run started, over a site
pub record EndsUnstarted (x : Form) (limit : ℕ) (journal : List ℕ) (before after : SiteState)
    (is : Crashes) (status : ℕ) (whole part : List ℕ) (session : Option Session) : Type 0 where
  pub none : session ≡ None
  pub ends : (files later : FilesState) (job : Job) → IsJobOf x limit journal files.contents job
      → JobEnds (around_of files later before after) job status whole part None
  pub on_journal : (files : Option Listing) (job : Job) → IsJobOf x limit journal files job
      → OnJournal files job before after is None
  pub only : OnlyDisk before after

-- nothing was put, and a run stops so
abbrev pub StopsUnstarted : Form → ℕ → List ℕ → SiteState → SiteState → Crashes → EarlyEnd → Type 0
StopsUnstarted x limit journal before after is stop =
    (sink : SinkState) → StopsAfter (EndsUnstarted x limit journal before after is) sink sink stop

-- a manager was started from the journal: how the site was right behind the attach, and is now
pub record StartsOver (x : Form) (limit : ℕ) (journal : List ℕ) (before after : SiteState)
    (is : Crashes) (m : ManagerState) : Type 0 where
  pub at : SiteState
  pub only : OnlyDisk before after
  pub attached : after.attached ≡ true
  pub fresh : m ≡ started
      (opening_of x limit m.machine.history m.machine.renewed m.machine.boot) m.store
  pub small : tree_size x [] ≤ limit
  pub opened : IsOpened journal at.tick before.disk at.disk
  pub stays : KeepsOpened at.disk after.disk
  pub later : at.tick ≤ after.tick
  pub starts : ForSome at.disk (λ disk. IsStartable
      (opening_of x limit m.machine.history m.machine.renewed m.machine.boot) disk.file)
  pub keeps : IsSome at.disk → (image : List ℕ) → is.left at.tick image
      → Keeps x (length m.machine.history) m.machine.history image
  pub reopens : IsSome at.disk → (image : List ℕ) → is.left at.tick image
      → Reopens (opening_of x limit m.machine.history m.machine.renewed m.machine.boot) image
  pub fits : FitsSite m after is
  pub since : (sends : Sends) → before.contents.sends ≡ Some sends
      → ServesSince at.tick x
      (length m.machine.history) m.machine.history m.machine.renewed sends [] [] unmarked after
      is
