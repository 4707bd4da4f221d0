-- The law of runs, as a statement over the definitions alone.
use Rattle.std.specs.Prelude.{◌≡◌, ◌⊎◌, ℕ, ◌≤◌, List, [], ◌++◌, length, codes, Option, None, Some}
use Rattle.std.specs.Prelude.{IsSome}
use Rattle.std.specs.Io.KnownBytes.{append_known}
use Rattle.ix_journal.specs.declared.entries.Renewed.{Renewed}
use Rattle.ix_values.specs.Faults.{IsActionText}
use Rattle.ix_values.specs.PlainAction.{Word}
use Rattle.ix_next.specs.Given.{PlainGiven}
use Rattle.ix_journal.specs.History.{PlainHistory}
use Rattle.ix_expr.specs.CanonicalText.{canonical_text}
use Rattle.ix_expr.specs.Form.{Form}
use Rattle.ix_parse.specs.Faults.{StandsFor}
use Rattle.ix_simplify.specs.Rewriting.{Becomes}
use Rattle.ix_can.specs.TreeOf.{tree_size}
use Rattle.ix_outside.specs.Contents.{GivenEvent, Sends}
use Rattle.ix_outside.specs.Counts.{Rose}
use Rattle.ix_outside.specs.Crashes.{Crashes}
use Rattle.ix_outside.specs.Disk.{Disk, Opened}
use Rattle.ix_outside.specs.Files.{Listing}
use Rattle.ix_outside.specs.SinkState.{SinkState}
use Rattle.ix_outside.specs.SiteState.{SiteState}
use Rattle.ix_generate.specs.Workload.{Ask, examinations}
use Rattle.ix_manager.specs.Images.{IsStartable}
use Rattle.ix_manager.specs.Runs.{opening_of}
use Rattle.ix_renew.specs.Renewal.{IsRenewal}
use Rattle.ix_cli.specs.Words.{Job, Names, trace, replay, serve, work, simplify, bound}
use Rattle.ix_cli.specs.Words.{follow, lint, why, next, stuck, renew}
use Rattle.ix_lines.specs.TextLines.{lines_of}
use Rattle.ix_manage.specs.ActionLines.{line}
use Rattle.ix_bound.specs.declared.answer.Bound.{Bound}
use Rattle.ix_bound.specs.Bounds.{IsBound}
use Rattle.ix_bound.specs.Refusals.{refused_nodes}
use Rattle.ix_desk.specs.BoundLines.{bound_lines}
use Rattle.ix_desk.specs.LintLines.{lint_lines}
use Rattle.ix_lint.specs.Findings.{findings}
use Rattle.ix_parse.specs.Symbols.{Meaning}
use Rattle.ix_manage.specs.Around.{Around, DiskFailed, FilesFailed, WireFailed}
use Rattle.ix_manage.specs.Command.{expression_of}
use Rattle.ix_next.specs.Lists.{AreGiven}
use Rattle.ix_manage.specs.Desk.{ReadsValues, StartsWithin, IsAnswered}
use Rattle.ix_manage.specs.Ends.{Ended, EndsOver, IsFrom}
use Rattle.ix_manage.specs.FollowLines.{FollowsTo, ReadsLines}
use Rattle.ix_manage.specs.Replay.{EndsWithin, Plays, ReadsEvents, session_text}
use Rattle.ix_manage.specs.Renewals.{CanBeRenewed, IsMade, ReadsJournal, renewed_line}
use Rattle.ix_manage.specs.Session.{IsOver, Session, Takes, history_line}
use Rattle.ix_manage.specs.Trace.{TraceAnswers, ReadsActions, ReadsForm, ReadsPlaced, Starts}
use Rattle.ix_manage.specs.Trace.{Verdict}
use Rattle.ix_manage.specs.Work.{Asked, history_of, work_line}

-- a run can start from a file: one that was absent, and has no bytes, or one that is startable
abbrev pub CanStart : Form → ℕ → List ℕ → Type 0
CanStart x limit file =
    (file ≡ [])
    ⊎ ((history : PlainHistory) × (renewed : Renewed) × (boot : ℕ)
    × IsStartable (opening_of x limit history renewed boot) file)

-- a site tells its disk, and a run can start from the file that was opened, where one was
pub record OpensStartable (x : Form) (limit : ℕ) (site : SiteState) : Type 0 where
  pub disk : Disk
  pub told : site.disk ≡ Some disk
  pub can_start : (opened : Opened) → disk.opened ≡ Some opened → CanStart x limit opened.file

-- a site tells its disk, and the file that was opened has no byte, where one was
pub record OpensEmpty (site : SiteState) : Type 0 where
  pub disk : Disk
  pub told : site.disk ≡ Some disk
  pub empty : (opened : Opened) → disk.opened ≡ Some opened → opened.file ≡ []

-- what a job reads is there and valid: its expression, whose initial tree is within the limit where
-- it has one, its actions, its given values, its script or its lines, and its journal
abbrev pub HasAll : Around → Job → Type 0
HasAll around (trace expression actions limit) = (x : Form) × (word : Word)
    × Starts around.files expression limit x × ReadsActions around.files actions word
HasAll around (replay expression journal script limit turns) =
    (x : Form) × (events : List GivenEvent) × Starts around.files expression limit x
    × ReadsEvents around.files script events × OpensStartable x limit around.after
HasAll around (serve expression journal socket limit turns) =
    (x : Form) × Starts around.files expression limit x × OpensStartable x limit around.after
HasAll around (work count seed limit) =
    (x : Form) × StandsFor examinations x × (tree_size x [] ≤ limit)
HasAll around (simplify expression) = (x : Form) × ReadsForm around.files expression x
HasAll around (bound expression count) = (x : Form) × ReadsForm around.files expression x
HasAll around (lint expression) = (x : Form) × ReadsForm around.files expression x
HasAll around (why expression actions action limit) = (x : Form) × (word : Word)
    × Starts around.files expression limit x × ReadsActions around.files actions word
    × IsActionText action
HasAll around (next expression actions values limit) = (x : Form) × (word : Word)
    × (given : List PlainGiven) × Starts around.files expression limit x
    × ReadsActions around.files actions word × AreGiven values given
HasAll around (stuck expression values limit states) = (x : Form) × (given : List PlainGiven)
    × ReadsForm around.files expression x × ReadsValues around.files values given
HasAll around (renew expression journal new limit) = (x : Form) × (bytes : List ℕ)
    × Starts around.files expression limit x × ReadsJournal around.files journal bytes
    × CanBeRenewed x limit bytes × OpensEmpty around.after
HasAll around (follow expression lines limit) = (x : Form) × (bytes : List ℕ)
    × Starts around.files expression limit x × ReadsLines around.files lines bytes

-- the events of a run come to an end within its turns: those of its script, whatever its session
-- was; or those of its session, where one came to be, with the end or a `stop`
pub data ComesToEnd (files : Option Listing) : Job → Option Session → Type 0 where
  of_script : {expression journal script : List ℕ} {limit turns : ℕ} {session : Option Session}
      (events : List GivenEvent) → ReadsEvents files script events → EndsWithin turns events
      → ComesToEnd files (replay expression journal script limit turns) session
  of_session : {job : Job} {session : Option Session}
      → ((played : Session) → session ≡ Some played → IsOver played) → ComesToEnd files job session

-- no call failed around a run, no put of its output did, and no connection was found gone
pub record NothingFails (around : Around) (old new : SinkState) : Type 0 where
  pub files : ¬ FilesFailed around
  pub disk : ¬ DiskFailed around
  pub wire : ¬ WireFailed around
  pub sends : ¬ Rose around.before.counts.send around.after.counts.send
  pub puts : ¬ Rose old.faults new.faults

-- each send went out whole, where the sends are told
abbrev pub NoneGone : SiteState → SiteState → Type 0
NoneGone before after = (old new : Sends) → before.contents.sends ≡ Some old
    → after.contents.sends ≡ Some new → new.gone ≡ old.gone

-- How a run that nothing hinders may end: with status 0 its whole text is put, and each reply of a
-- session, by a serve sent. A follow may end with status 11 behind some answers, where an entry is
-- refused, and so may a why and a next where an action isn't allowed; a next and a stuck with 3
-- where there are too many candidates. Or there is no memory, status 9: for a trace and a follow
-- behind some answers, and otherwise before any line; where a session runs its replies say so
-- instead.
pub data EndsWhole (around : Around) : Job → ℕ → List ℕ → Option Session → Type 0 where
  no_memory : {job : Job} → EndsWhole around job 9 (line (codes "refused memory")) None
  short : {expression actions : List ℕ} {limit : ℕ} {x : Form} {front history : Word}
      {text : List ℕ} (rest : Word)
      → Starts around.files expression limit x → ReadsActions around.files actions (front ++ rest)
      → TraceAnswers x limit [] front text history
      → EndsWhole around (trace expression actions limit) 9
      (text ++ line (codes "refused memory")) None
  traced : {expression actions : List ℕ} {limit : ℕ} {x : Form} {word history : Word}
      {text last : List ℕ}
      → Starts around.files expression limit x → ReadsActions around.files actions word
      → TraceAnswers x limit [] word text history → Verdict x history last
      → EndsWhole around (trace expression actions limit) 0 (text ++ last) None
  replayed : {expression journal script : List ℕ} {limit turns : ℕ} {x : Form}
      {events : List GivenEvent} {session : Session}
      → Starts around.files expression limit x → ReadsEvents around.files script events
      → IsFrom x limit session.opening → Plays turns events session
      → EndsWhole around (replay expression journal script limit turns) 0 (session_text session)
      (Some session)
  served : {expression journal socket : List ℕ} {limit turns : ℕ} {x : Form} {session : Session}
      → Starts around.files expression limit x
      → IsFrom x limit session.opening → Takes turns session → NoneGone around.before around.after
      → EndsWhole around (serve expression journal socket limit turns) 0
      (history_line session.opening) (Some session)
  worked : {count seed limit refused : ℕ} {x : Form} {granted : List Ask}
      → StandsFor examinations x → Asked x limit seed count granted refused
      → EndsWhole around (work count seed limit) 0
      (work_line count (length granted) refused (tree_size x (history_of granted))) None
  simplified : {expression : List ℕ} {x : Form} (s : Form)
      → ReadsForm around.files expression x → Becomes x s
      → EndsWhole around (simplify expression) 0 (line (canonical_text s)) None
  bounded : {expression : List ℕ} {count : ℕ} {x : Meaning} (answer : Bound)
      → ReadsPlaced around.files expression x → IsBound x.form count answer
      → EndsWhole around (bound expression count) 0
      (bound_lines x.places answer (refused_nodes x.form)) None
  followed : {expression lines bytes text last : List ℕ} {limit status : ℕ} {x : Form}
      → Starts around.files expression limit x → ReadsLines around.files lines bytes
      → FollowsTo x limit (lines_of bytes) status text last
      → EndsWhole around (follow expression lines limit) status (text ++ last) None
  linted : {expression : List ℕ} {x : Meaning}
      → ReadsPlaced around.files expression x
      → EndsWhole around (lint expression) 0 (lint_lines x.places (findings x.form)) None
  renewed : {expression journal new bytes : List ℕ} {limit actions boots : ℕ} {x : Form}
      (carried : Word)
      → Starts around.files expression limit x → ReadsJournal around.files journal bytes
      → IsRenewal x limit bytes carried actions boots
      → IsMade new x carried actions boots around.after.disk
      → EndsWhole around (renew expression journal new limit) 0
      (renewed_line actions boots (length carried)) None
  told : {job : Job} {expression text : List ℕ} {x : Meaning} {status : ℕ}
      → expression_of job ≡ Some expression
      → ReadsPlaced around.files expression x → StartsWithin job x.form
      → IsAnswered around.files x job status text
      → EndsWhole around job status text None

-- A run whose words name a job, over files that are told and have all that it reads, and in which
-- nothing fails, ends whole, if its events come to an end within its turns.
abbrev pub UnhinderedRunsEndWhole : {S : Type 0} → (S → Crashes) → Type 0
UnhinderedRunsEndWhole {S = S} crashes = (site : S) (words : List (List ℕ)) (job : Job)
    (around : Around) (status : ℕ) (old new : SinkState)
    → Names words job → IsSome around.files → HasAll around job → NothingFails around old new
    → (it : Ended (EndsOver words around (crashes site)) status old new)
    → ComesToEnd around.files job it.session
    → EndsWhole around job status it.whole it.session
    × (new.written ≡ append_known old.written it.whole)
