-- The history that a job takes from a file.
use Rattle.std.specs.Prelude.{◌≡◌, ℕ, ◌≤◌, List, [], Option, None, Some}
use Rattle.ix_values.specs.PlainAction.{Word}
use Rattle.ix_expr.specs.Form.{Form}
use Rattle.ix_outside.specs.Files.{Listing}
use Rattle.ix_outside.specs.FilesState.{FilesState}
use Rattle.ix_outside.specs.SiteState.{SiteState}
use Rattle.ix_parse.specs.Symbols.{Meaning}
use Rattle.ix_can.specs.TreeOf.{tree_size}
use Rattle.ix_engine.specs.Histories.{AreAllowed, StopsAt}
use Rattle.ix_engine.specs.declared.faults.PrepareFault.{PrepareFault}
use Rattle.ix_engine.specs.declared.faults.PrepareFault.TheVariants as why
use Rattle.ix_engine.specs.declared.faults.ResumeFault.{ResumeFault}
use Rattle.ix_cli.specs.Words.{Job}
use Rattle.ix_manage.specs.ActionLines.{HasActions}
use Rattle.ix_manage.specs.Around.{around_of}
use Rattle.ix_manage.specs.Command.{expression_of, history_file_of, limit_of}
use Rattle.ix_manage.specs.Ends.{JobEnds, ReadsRest}
use Rattle.ix_manage.specs.Puts.{LastLine}
use Rattle.ix_manage.specs.Trace.{ReadsActions, ReadsPlaced}
use Rattle.ix_manage.specs.declared.job.HistoryWords.{HistoryWords}
use Rattle.ix_manage.specs.declared.past.Past.{Past}
use Rattle.ix_manage.specs.declared.refusal.Refusal.{Refusal}
use Rattle.ix_manage.specs.declared.refusal.Refusal.TheVariants.{NotAllowed, Memory}
use Rattle.ix_manage.specs.inside.Refusal.{refusal_line, refusal_status}

-- the refusal of a list of actions
abbrev pub refusal_by : PrepareFault → ℕ → Refusal
refusal_by why.NotPartial number = NotAllowed 62 number
refusal_by why.Full number = NotAllowed 63 number
refusal_by (why.Over limit) number = NotAllowed 64 number
refusal_by why.Memory number = Memory

abbrev pub past_refusal : ResumeFault → Refusal
past_refusal fault = refusal_by fault.why fault.number

-- the actions of the lines aren't taken, or there is no memory for them
pub data RefusesPast (x : Form) (limit : ℕ) (bytes : List ℕ) (refusal : Refusal) : Type 0 where
  stops : {word : Word} (fault : ResumeFault)
      → HasActions bytes word → StopsAt x limit word fault → refusal ≡ past_refusal fault
      → RefusesPast x limit bytes refusal
  short : refusal ≡ Memory → RefusesPast x limit bytes refusal

-- what an expression with its places means
abbrev pub past_meaning : Past → Meaning
past_meaning past = record { form = past.engine.form; places = past.places.items }

-- the files have the expression and the history, each action of which is allowed
pub record HasPast (files : Option Listing) (names : HistoryWords) (past : Past) : Type 0 where
  pub reads : ReadsPlaced files names.expression.now (past_meaning past)
  pub small : tree_size past.engine.form [] ≤ names.limit
  pub actions : ReadsActions files names.actions.now past.engine.history
  pub allowed : AreAllowed past.engine.form names.limit past.engine.history

-- a job may end with the refusal's line alone, and leaves the site as it is
abbrev pub EndsWith : FilesState → FilesState → Job → Refusal → Type 0
EndsWith files later job refusal =
    (status : ℕ) (whole part : List ℕ)
    → LastLine (refusal_status refusal) [] (refusal_line refusal) status whole part
    → (site : SiteState) → JobEnds (around_of files later site site) job status whole part None

-- a job of these words may end so
abbrev pub EndsBefore : FilesState → FilesState → HistoryWords → Refusal → Type 0
EndsBefore files later names refusal = (job : Job)
    → expression_of job ≡ Some names.expression.now → history_file_of job ≡ Some names.actions.now
    → limit_of job ≡ names.limit → ReadsRest files.contents job → EndsWith files later job refusal
