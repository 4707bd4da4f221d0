-- A work as far as it went.
use Rattle.std.specs.Prelude.{◌≡◌, ℕ, Bool, true, false, List, length, Option}
use Rattle.ix_values.specs.PlainAction.{Word}
use Rattle.ix_expr.specs.Form.{Form}
use Rattle.ix_can.specs.TreeOf.{tree_size}
use Rattle.ix_engine.specs.inside.Engine.{Allows, EngineState, extended_by}
use Rattle.ix_outside.specs.FilesState.{FilesState}
use Rattle.ix_outside.specs.SiteState.{SiteState}
use Rattle.ix_generate.specs.Workload.{Ask, PlainWorkload, asked_action, behind_draw, drawn}
use Rattle.ix_generate.specs.Workload.{with_granted}
use Rattle.ix_generate.specs.History.{RunsWorkload, generator_behind}
use Rattle.ix_manage.specs.Around.{around_of}
use Rattle.ix_manage.specs.Ends.{JobEnds}
use Rattle.ix_manage.specs.Session.{Session}
use Rattle.ix_manage.specs.Work.{Asked, history_of}
use Rattle.ix_manage.specs.declared.job.WorkWords.{WorkWords}
use Rattle.ix_manage.specs.declared.work.Summary.{Summary}
use Rattle.ix_manage.specs.inside.Jobs.{work_of}

-- the next ask of a workload was granted, and joined the history; or it was refused
pub data AsksNext (engine : EngineState) (workload : PlainWorkload)
    : Bool → Word → PlainWorkload → Type 0 where
  granted : Allows engine (asked_action (drawn workload))
      → AsksNext engine workload true (extended_by engine (asked_action (drawn workload)))
      (with_granted (behind_draw workload) (drawn workload))
  refused : ¬ Allows engine (asked_action (drawn workload))
      → AsksNext engine workload false engine.history (behind_draw workload)

-- a workload and its history behind so many asks of a seed, of which so many were granted and
-- refused
pub record HasAsked (x : Form) (limit seed count granted refused : ℕ) (history : Word)
    (workload : PlainWorkload) : Type 0 where
  pub asks : List Ask
  pub asked : Asked x limit seed count asks refused
  pub granted_is : granted ≡ length asks
  pub history_is : history ≡ history_of asks
  pub runs : RunsWorkload seed asks workload
  pub drawn_so_far : workload.generator ≡ generator_behind seed count

-- these are the numbers of all asks of a work
pub record Sums (x : Form) (names : WorkWords) (summary : Summary) : Type 0 where
  pub asks : List Ask
  pub made : Asked x names.limit names.seed names.count asks summary.refused
  pub asked_is : summary.asked ≡ names.count
  pub granted_is : summary.granted ≡ length asks
  pub nodes_is : summary.nodes ≡ tree_size x (history_of asks)

-- how a work may end, whatever the files and the site, which it leaves as they are
abbrev pub WorkEnds : WorkWords → ℕ → List ℕ → List ℕ → Option Session → Type 0
WorkEnds names status whole part session = (files : FilesState) (site : SiteState)
    → JobEnds (around_of files files site site) (work_of names) status whole part session
