-- What `why`, `next` and `stuck` answer, and why they don't.
use Rattle.std.specs.Prelude.{◌≡◌, ℕ, ◌<◌, ◌≤◌, List, [], ◌++◌, Option, Some, codes, length}
use Rattle.std.specs.Prelude.{true, false, ⊤}
use Rattle.ix_next.specs.declared.menu.TheConstants.{CANDIDATE_LIMIT, MOVE_LIMIT}
use Rattle.ix_manage.specs.Limits.{most_file_bytes}
use Rattle.ix_words.specs.Each.{Each}
use Rattle.ix_lines.specs.TextLines.{lines_of}
use Rattle.ix_expr.specs.Form.{Form}
use Rattle.ix_values.specs.Faults.{IsActionText}
use Rattle.ix_values.specs.PlainAction.{PlainAction, Word, text_of}
use Rattle.ix_values.specs.Texts.{IsAction}
use Rattle.ix_outside.specs.Files.{Listing, HasFile, HasLonger}
use Rattle.ix_parse.specs.Symbols.{Meaning}
use Rattle.ix_can.specs.TreeOf.{tree_of, tree_size}
use Rattle.ix_engine.specs.Histories.{AreAllowed, StopsAt}
use Rattle.ix_engine.specs.declared.faults.PrepareFault.{PrepareFault}
use Rattle.ix_engine.specs.declared.faults.PrepareFault.TheVariants.{NotPartial, Full, Over, Memory}
use Rattle.ix_engine.specs.declared.faults.ResumeFault.{ResumeFault}
use Rattle.ix_why.specs.Blames.{refusals}
use Rattle.ix_next.specs.Lists.{AreGiven, AreGood, HasBadLine, IsGiven}
use Rattle.ix_next.specs.Given.{PlainGiven}
use Rattle.ix_next.specs.Candidates.{PlainCandidate, candidates}
use Rattle.ix_next.specs.Menu.{IsMenu, moves}
use Rattle.ix_stuck.specs.Answers.{IsAnswer}
use Rattle.ix_stuck.specs.declared.answer.Answer.{Answer}
use Rattle.ix_desk.specs.WhyLines.{why_lines}
use Rattle.ix_desk.specs.MenuLines.{menu_lines}
use Rattle.ix_desk.specs.StuckLines.{stuck_lines}
use Rattle.ix_cli.specs.Words.{Job, why, next, stuck}
use Rattle.ix_manage.specs.ActionLines.{line}
use Rattle.ix_manage.specs.Around.{Around, FilesFailed}
use Rattle.ix_manage.specs.Command.{history_file_of, limit_of, values_file_of}
use Rattle.ix_manage.specs.Trace.{HasBadActions, ReadsActions, Verdict, fault_line}

-- the words of a job that `clap` takes as any text are what they must be: an action, and given
-- values
abbrev pub HasFitWords : Job → Type 0
HasFitWords (why expression actions action limit) = IsActionText action
HasFitWords (next expression actions values limit) = Each IsGiven values
HasFitWords _ = ⊤

-- the initial tree of the expression is within the limit, where the job has a history
abbrev pub StartsWithin : Job → Form → Type 0
StartsWithin job x = (actions : List ℕ) → history_file_of job ≡ Some actions
    → tree_size x [] ≤ limit_of job

-- the file of given values has this fault
pub data HasBadValues (files : Option Listing) (name : List ℕ) : ℕ → ℕ → Type 0 where
  too_long : HasLonger files name most_file_bytes → HasBadValues files name 71 most_file_bytes
  bad_line : {code at : ℕ} (bytes : List ℕ)
      → HasFile files name bytes → length bytes ≤ most_file_bytes → HasBadLine bytes code at
      → HasBadValues files name code at

-- the file of this name has these given values, one at least
pub record ReadsValues (files : Option Listing) (name : List ℕ) (given : List PlainGiven)
    : Type 0 where
  pub bytes : List ℕ
  pub file : HasFile files name bytes
  pub short : length bytes ≤ most_file_bytes
  pub good : AreGood (lines_of bytes) given
  pub some : 0 < length given

-- the file of a job's history, or that of its given values, can't be read: the status, and the line
-- that says why
pub data Unread (around : Around) (job : Job) : ℕ → List ℕ → Type 0 where
  bad_actions : {actions : List ℕ} {code at : ℕ}
      → history_file_of job ≡ Some actions → HasBadActions around.files actions code at
      → Unread around job 3 (fault_line (codes "actions") code at)
  lost_actions : {actions : List ℕ}
      → history_file_of job ≡ Some actions → FilesFailed around
      → Unread around job 4 (line (codes "refused file actions"))
  bad_values : {values : List ℕ} {code at : ℕ}
      → values_file_of job ≡ Some values → HasBadValues around.files values code at
      → Unread around job 3 (fault_line (codes "values") code at)
  lost_values : {values : List ℕ}
      → values_file_of job ≡ Some values → FilesFailed around
      → Unread around job 4 (line (codes "refused file values"))

-- the code of an action that isn't allowed: it isn't permitted, the history is full, or the tree is
-- above the limit
abbrev pub IsHistoryCode : PrepareFault → ℕ → Type 0
IsHistoryCode NotPartial code = code ≡ 62
IsHistoryCode Full code = code ≡ 63
IsHistoryCode (Over limit) code = code ≡ 64
IsHistoryCode Memory code = ⊥

-- What a job answers for an expression and its places: the status, and the lines.
pub data IsAnswered (files : Option Listing) (x : Meaning) : Job → ℕ → List ℕ → Type 0 where
  not_allowed : {job : Job} {actions : List ℕ} {word : Word} (code : ℕ) (fault : ResumeFault)
      → history_file_of job ≡ Some actions → ReadsActions files actions word
      → StopsAt x.form (limit_of job) word fault → IsHistoryCode fault.why code
      → IsAnswered files x job 11 (fault_line (codes "history") code fault.number)
  reasons : {expression actions action : List ℕ} {limit : ℕ} {word : Word} (a : PlainAction)
      → ReadsActions files actions word → AreAllowed x.form limit word
      → IsAction a → text_of a ≡ action
      → IsAnswered files x (why expression actions action limit) 0
      (why_lines x.places x.form (refusals x.form (tree_of x.form [] word) a))
  many : {expression actions : List ℕ} {values : List (List ℕ)} {limit : ℕ} {word : Word}
      (given : List PlainGiven)
      → ReadsActions files actions word → AreAllowed x.form limit word → AreGiven values given
      → CANDIDATE_LIMIT < length (candidates true x.form given)
      → IsAnswered files x (next expression actions values limit) 3
      (line (codes "refused candidates"))
  menu : {expression actions last : List ℕ} {values : List (List ℕ)} {limit : ℕ} {word : Word}
      (given : List PlainGiven) (offered : List PlainCandidate)
      → ReadsActions files actions word → AreAllowed x.form limit word → AreGiven values given
      → IsMenu x.form word given offered → Verdict x.form word last
      → IsAnswered files x (next expression actions values limit) 0 (menu_lines offered ++ last)
  many_moves : {expression values : List ℕ} {limit states : ℕ} (given : List PlainGiven)
      → ReadsValues files values given → MOVE_LIMIT < length (candidates false x.form given)
      → IsAnswered files x (stuck expression values limit states) 3
      (line (codes "refused candidates"))
  searched : {expression values : List ℕ} {limit states : ℕ} (given : List PlainGiven)
      (answer : Answer)
      → ReadsValues files values given → IsAnswer x.form (moves x.form given) limit answer
      → IsAnswered files x (stuck expression values limit states) 0
      (stuck_lines states x.places x.form answer)
