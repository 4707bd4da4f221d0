-- How a run ends, by the words and the files.
use Rattle.std.specs.Prelude.{◌≡◌, ◌⊎◌, ℕ, List, [], Option, None, Some, codes, length, ⊤}
use Rattle.ix_manage.specs.Limits.{most_file_bytes}
use Rattle.ix_values.specs.PlainAction.{Word}
use Rattle.ix_expr.specs.CanonicalText.{canonical_text}
use Rattle.ix_expr.specs.Form.{Form}
use Rattle.ix_simplify.specs.Rewriting.{Becomes}
use Rattle.ix_bound.specs.declared.answer.Bound.{Bound}
use Rattle.ix_bound.specs.Bounds.{IsBound}
use Rattle.ix_bound.specs.Refusals.{refused_nodes}
use Rattle.ix_desk.specs.BoundLines.{bound_lines}
use Rattle.ix_desk.specs.LintLines.{lint_lines}
use Rattle.ix_lint.specs.Findings.{findings}
use Rattle.ix_outside.specs.Contents.{GivenEvent}
use Rattle.ix_parse.specs.Symbols.{Meaning}
use Rattle.ix_lines.specs.TextLines.{lines_of}
use Rattle.ix_outside.specs.Files.{Listing, HasLonger}
use Rattle.ix_outside.specs.SinkState.{SinkState}
use Rattle.ix_outside.specs.Counts.{Rose}
use Rattle.ix_outside.specs.Crashes.{Crashes}
use Rattle.ix_manager.specs.Runs.{Opening}
use Rattle.ix_renew.specs.Renewal.{IsRenewal}
use Rattle.ix_cli.specs.Words.{Job, Names, NamesNoJob, trace, replay, serve, work, simplify}
use Rattle.ix_cli.specs.Words.{bound, follow, lint, why, stuck, renew}
use Rattle.ix_manage.specs.ActionLines.{line}
use Rattle.ix_manage.specs.Around.{Around, DiskFailed, FilesFailed, SiteRests, WireFailed}
use Rattle.ix_manage.specs.Command.{expression_of, journal_of, limit_of}
use Rattle.ix_manage.specs.Desk.{HasFitWords, StartsWithin, IsAnswered, Unread}
use Rattle.ix_manage.specs.FollowLines.{FollowEnds, ReadsLines}
use Rattle.ix_manage.specs.Puts.{LastLine, Puts}
use Rattle.ix_manage.specs.Journal.{OfJournal, OnJournal, RefusesFile, journal_line}
use Rattle.ix_manage.specs.Renewals.{HasByte, HasLongJournal, IsMade, OnNewFile, ReadsJournal}
use Rattle.ix_manage.specs.Renewals.{RefusesRenewal, renewed_line}
use Rattle.ix_manage.specs.Site.{Touches}
use Rattle.ix_manage.specs.Session.{Session, Takes}
use Rattle.ix_manage.specs.Replay.{HasBadScript, Plays, ReadsEvents, ReplayEnds}
use Rattle.ix_manage.specs.Serve.{OnWire, ServeEnds}
use Rattle.ix_manage.specs.Work.{Works}
use Rattle.ix_manage.specs.Trace.{fault_line, large_line, HasBadActions, HasBadText, ReadsActions}
use Rattle.ix_manage.specs.Trace.{ReadsForm, ReadsPlaced, Starts, StartsAbove, Traces}

-- the opening is of the expression, under the limit
abbrev pub IsFrom : Form → ℕ → Opening → Type 0
IsFrom x limit opening = (opening.form ≡ x) × (opening.limit ≡ limit)

-- What a job reads beside its expression before it makes a tree is in its grammar: the script of a
-- replay; and the journal of a renew was read. A simplify, a bound, a lint and a stuck aren't
-- refused for it.
abbrev pub ReadsRest : Option Listing → Job → Type 0
ReadsRest files (replay expression journal script limit turns) =
    (events : List GivenEvent) × ReadsEvents files script events
ReadsRest files (simplify expression) = ⊥
ReadsRest files (bound expression count) = ⊥
ReadsRest files (lint expression) = ⊥
ReadsRest files (stuck expression values limit states) = ⊥
ReadsRest files (renew expression journal new limit) =
    (bytes : List ℕ) × ReadsJournal files journal bytes
ReadsRest files _ = ⊤

-- a job of an expression keeps a journal, and its files are read
pub record KeepsJournal (files : Option Listing) (job : Job) (expression : List ℕ) : Type 0 where
  pub of_expression : expression_of job ≡ Some expression
  pub journal : List ℕ
  pub has_journal : journal_of job ≡ Some journal
  pub rest : ReadsRest files job

-- How a job may end, by what is around it: its status, what it puts whole, what a put was to put
-- that failed, and the session where the machine ran. Where a file is lost or has a fault, the site
-- is as it was; what failed is told by its count.
pub data JobEnds (around : Around)
    : Job → ℕ → List ℕ → List ℕ → Option Session → Type 0 where
  no_memory : {job : Job} {status : ℕ} {whole part : List ℕ}
      → LastLine 9 [] (line (codes "refused memory")) status whole part
      → JobEnds around job status whole part None
  bad_text : {job : Job} {expression : List ℕ} {code at status : ℕ} {whole part : List ℕ}
      → expression_of job ≡ Some expression → HasBadText around.files expression code at
      → SiteRests around
      → LastLine 3 [] (fault_line (codes "expression") code at) status whole part
      → JobEnds around job status whole part None
  lost_expression : {job : Job} {expression : List ℕ} {status : ℕ} {whole part : List ℕ}
      → expression_of job ≡ Some expression → FilesFailed around → SiteRests around
      → LastLine 4 [] (line (codes "refused file expression")) status whole part
      → JobEnds around job status whole part None
  large : {job : Job} {expression : List ℕ} {status : ℕ} {whole part : List ℕ}
      → expression_of job ≡ Some expression → ReadsRest around.files job
      → StartsAbove around.files expression (limit_of job)
      → LastLine 3 [] (large_line (limit_of job)) status whole part
      → JobEnds around job status whole part None
  lost_disk : {job : Job} {expression : List ℕ} {x : Form} {status : ℕ} {whole part : List ℕ}
      → KeepsJournal around.files job expression → ReadsForm around.files expression x
      → DiskFailed around
      → LastLine 5 [] (line (codes "refused disk")) status whole part
      → JobEnds around job status whole part None
  refused_journal : {job : Job} {expression : List ℕ} {x : Form} (why : List ℕ) {status : ℕ}
      {whole part : List ℕ}
      → KeepsJournal around.files job expression → Starts around.files expression (limit_of job) x
      → OfJournal (λ file. RefusesFile x (limit_of job) file why) around.after.disk
      → LastLine 8 [] (journal_line why) status whole part
      → JobEnds around job status whole part None
  bad_actions : {expression actions : List ℕ} {limit : ℕ} {x : Form} {code at status : ℕ}
      {whole part : List ℕ}
      → Starts around.files expression limit x → HasBadActions around.files actions code at
      → SiteRests around
      → LastLine 3 [] (fault_line (codes "actions") code at) status whole part
      → JobEnds around (trace expression actions limit) status whole part None
  lost_actions : {expression actions : List ℕ} {limit : ℕ} {x : Form} {status : ℕ}
      {whole part : List ℕ}
      → Starts around.files expression limit x → FilesFailed around → SiteRests around
      → LastLine 4 [] (line (codes "refused file actions")) status whole part
      → JobEnds around (trace expression actions limit) status whole part None
  traced : {expression actions : List ℕ} {limit : ℕ} {x : Form} {word : Word} {status : ℕ}
      {whole part : List ℕ}
      → Starts around.files expression limit x → ReadsActions around.files actions word
      → Traces x limit word status whole part
      → JobEnds around (trace expression actions limit) status whole part None
  bad_script : {expression journal script : List ℕ} {limit turns : ℕ} {x : Form}
      {code at status : ℕ} {whole part : List ℕ}
      → ReadsForm around.files expression x → HasBadScript around.files script code at
      → SiteRests around
      → LastLine 3 [] (fault_line (codes "script") code at) status whole part
      → JobEnds around (replay expression journal script limit turns) status whole part None
  lost_script : {expression journal script : List ℕ} {limit turns : ℕ} {x : Form} {status : ℕ}
      {whole part : List ℕ}
      → ReadsForm around.files expression x → FilesFailed around → SiteRests around
      → LastLine 4 [] (line (codes "refused file script")) status whole part
      → JobEnds around (replay expression journal script limit turns) status whole part None
  replayed : {expression journal script : List ℕ} {limit turns : ℕ} {x : Form}
      {events : List GivenEvent} {session : Session} {status : ℕ} {whole part : List ℕ}
      → Starts around.files expression limit x → ReadsEvents around.files script events
      → IsFrom x limit session.opening → Plays turns events session
      → ReplayEnds turns around.before.counts around.after.counts session status whole part
      → JobEnds around (replay expression journal script limit turns) status whole part
      (Some session)
  no_wire : {expression journal socket : List ℕ} {limit turns : ℕ} {x : Form} {status : ℕ}
      {whole part : List ℕ}
      → Starts around.files expression limit x → WireFailed around
      → LastLine 6 [] (line (codes "refused wire")) status whole part
      → JobEnds around (serve expression journal socket limit turns) status whole part None
  served : {expression journal socket : List ℕ} {limit turns : ℕ} {x : Form}
      {session : Session} {status : ℕ} {whole part : List ℕ}
      → Starts around.files expression limit x
      → IsFrom x limit session.opening → Takes turns session
      → ServeEnds turns around.before.counts around.after.counts session status whole part
      → JobEnds around (serve expression journal socket limit turns) status whole part
      (Some session)
  worked : {count seed limit status : ℕ} {whole part : List ℕ}
      → Works count seed limit status whole part
      → JobEnds around (work count seed limit) status whole part None
  simplified : {expression : List ℕ} {x : Form} (s : Form) {status : ℕ} {whole part : List ℕ}
      → ReadsForm around.files expression x → Becomes x s
      → LastLine 0 [] (line (canonical_text s)) status whole part
      → JobEnds around (simplify expression) status whole part None
  bounded : {expression : List ℕ} {count : ℕ} {x : Meaning} (answer : Bound) {status : ℕ}
      {whole part : List ℕ}
      → ReadsPlaced around.files expression x → IsBound x.form count answer
      → LastLine 0 [] (bound_lines x.places answer (refused_nodes x.form)) status whole part
      → JobEnds around (bound expression count) status whole part None
  long_lines : {expression lines : List ℕ} {limit : ℕ} {x : Form} {status : ℕ}
      {whole part : List ℕ}
      → Starts around.files expression limit x → HasLonger around.files lines most_file_bytes
      → SiteRests around
      → LastLine 3 [] (fault_line (codes "lines") 7 most_file_bytes) status whole part
      → JobEnds around (follow expression lines limit) status whole part None
  lost_lines : {expression lines : List ℕ} {limit : ℕ} {x : Form} {status : ℕ}
      {whole part : List ℕ}
      → Starts around.files expression limit x → FilesFailed around → SiteRests around
      → LastLine 4 [] (line (codes "refused file lines")) status whole part
      → JobEnds around (follow expression lines limit) status whole part None
  followed : {expression lines bytes : List ℕ} {limit : ℕ} {x : Form} {status : ℕ}
      {whole part : List ℕ}
      → Starts around.files expression limit x → ReadsLines around.files lines bytes
      → FollowEnds x limit (lines_of bytes) status whole part
      → JobEnds around (follow expression lines limit) status whole part None
  linted : {expression : List ℕ} {x : Meaning} {status : ℕ} {whole part : List ℕ}
      → ReadsPlaced around.files expression x
      → LastLine 0 [] (lint_lines x.places (findings x.form)) status whole part
      → JobEnds around (lint expression) status whole part None
  lost_journal : {expression journal new : List ℕ} {limit : ℕ} {x : Form} {status : ℕ}
      {whole part : List ℕ}
      → ReadsForm around.files expression x
      → FilesFailed around ⊎ HasLongJournal around.files journal → SiteRests around
      → LastLine 4 [] (line (codes "refused file journal")) status whole part
      → JobEnds around (renew expression journal new limit) status whole part None
  unrenewed : {expression journal new bytes : List ℕ} {limit : ℕ} {x : Form} (why : List ℕ)
      {status : ℕ} {whole part : List ℕ}
      → Starts around.files expression limit x → ReadsJournal around.files journal bytes
      → RefusesRenewal x limit bytes why → SiteRests around
      → LastLine 8 [] (journal_line why) status whole part
      → JobEnds around (renew expression journal new limit) status whole part None
  there : {expression journal new bytes : List ℕ} {limit : ℕ} {x : Form} {status : ℕ}
      {whole part : List ℕ}
      → Starts around.files expression limit x → ReadsJournal around.files journal bytes
      → HasByte new around.after.disk
      → LastLine 8 [] (journal_line (codes "there")) status whole part
      → JobEnds around (renew expression journal new limit) status whole part None
  lost_new : {expression journal new bytes : List ℕ} {limit : ℕ} {x : Form} {status : ℕ}
      {whole part : List ℕ}
      → Starts around.files expression limit x → ReadsJournal around.files journal bytes
      → DiskFailed around
      → LastLine 5 [] (line (codes "refused disk")) status whole part
      → JobEnds around (renew expression journal new limit) status whole part None
  renewed : {expression journal new bytes : List ℕ} {limit actions boots : ℕ} {x : Form}
      (carried : Word) {status : ℕ} {whole part : List ℕ}
      → Starts around.files expression limit x → ReadsJournal around.files journal bytes
      → IsRenewal x limit bytes carried actions boots
      → IsMade new x carried actions boots around.after.disk
      → LastLine 0 [] (renewed_line actions boots (length carried)) status whole part
      → JobEnds around (renew expression journal new limit) status whole part None
  unread : {job : Job} {expression : List ℕ} {x : Form} {end status : ℕ}
      {text whole part : List ℕ}
      → expression_of job ≡ Some expression
      → ReadsForm around.files expression x → StartsWithin job x → Unread around job end text
      → LastLine end [] text status whole part
      → JobEnds around job status whole part None
  told : {job : Job} {expression : List ℕ} {x : Meaning} {end status : ℕ}
      {text whole part : List ℕ}
      → expression_of job ≡ Some expression
      → ReadsPlaced around.files expression x → StartsWithin job x.form
      → IsAnswered around.files x job end text
      → LastLine end [] text status whole part
      → JobEnds around job status whole part None

-- what a job may make of the files, the output and the site
pub record JobOver (around : Around) (job : Job) (is : Crashes) (status : ℕ) (whole part : List ℕ)
    (session : Option Session) : Type 0 where
  pub ends : JobEnds around job status whole part session
  pub touches : Touches job around.before around.after
  pub journal : OnJournal around.files job around.before around.after is session
  pub wire : OnWire job around.before around.after is session
  pub made : OnNewFile around.files job around.after.disk is

-- How a run over a site may end: words that name no job are refused with a text, and those that
-- name one, but for it aren't what they must be, with a line; memory may run out for them; and
-- others end as their job may.
pub data EndsOver (words : List (List ℕ)) (around : Around) (is : Crashes)
    : ℕ → List ℕ → List ℕ → Option Session → Type 0 where
  other_words : {text : List ℕ} {status : ℕ} {whole part : List ℕ}
      → NamesNoJob words → SiteRests around → LastLine 2 [] text status whole part
      → EndsOver words around is status whole part None
  no_memory : {status : ℕ} {whole part : List ℕ}
      → SiteRests around → LastLine 9 [] (line (codes "refused memory")) status whole part
      → EndsOver words around is status whole part None
  unfit : {status : ℕ} {whole part : List ℕ} (job : Job)
      → Names words job → ¬ HasFitWords job → SiteRests around
      → LastLine 2 [] (line (codes "refused words")) status whole part
      → EndsOver words around is status whole part None
  named : {job : Job} {status : ℕ} {whole part : List ℕ} {session : Option Session}
      → Names words job → HasFitWords job → JobOver around job is status whole part session
      → EndsOver words around is status whole part session

-- How a call ended with a status: there are texts and a session with which it may end so, and these
-- texts went out, the second in part; with status 10 a put failed.
pub record Ended (May : ℕ → List ℕ → List ℕ → Option Session → Type 0) (status : ℕ)
    (old new : SinkState) : Type 0 where
  pub whole : List ℕ
  pub part : List ℕ
  pub session : Option Session
  pub may : May status whole part session
  pub puts : Puts whole part old new
  pub put_failed : status ≡ 10 → Rose old.faults new.faults
