-- A trace, and a run behind the loading of its files.
use Rattle.std.specs.Prelude.{ℕ, List, Option}
use Rattle.ix_expr.specs.Form.{Form}
use Rattle.ix_outside.specs.Contents.{GivenEvent}
use Rattle.ix_outside.specs.Crashes.{Crashes}
use Rattle.ix_outside.specs.FilesState.{FilesState}
use Rattle.ix_outside.specs.SiteState.{SiteState}
use Rattle.ix_script.specs.Events.{HasEvents}
use Rattle.ix_manage.specs.Around.{around_of}
use Rattle.ix_manage.specs.Ends.{JobEnds, JobOver}
use Rattle.ix_manage.specs.Replay.{ReadsEvents}
use Rattle.ix_manage.specs.Session.{Session}
use Rattle.ix_manage.specs.Trace.{ReadsForm}
use Rattle.ix_manage.specs.declared.job.ReplayWords.{ReplayWords}
use Rattle.ix_manage.specs.declared.job.ServeWords.{ServeWords}
use Rattle.ix_manage.specs.declared.job.TraceWords.{TraceWords}
use Rattle.ix_manage.specs.inside.Jobs.{replay_of, serve_of, trace_of}

-- how a trace may end, whatever the site, which it leaves as it is
abbrev pub TraceEnds : FilesState → FilesState → TraceWords
    → ℕ → List ℕ → List ℕ → Option Session → Type 0
TraceEnds files later names status whole part session = (site : SiteState)
    → JobEnds (around_of files later site site) (trace_of names) status whole part session

-- how a replay may end over a site, where files stand for the form and the script
abbrev pub PlaysOver : Form → ReplayWords → List ℕ → SiteState → SiteState → Crashes
    → ℕ → List ℕ → List ℕ → Option Session → Type 0
PlaysOver x names script before after is status whole part session =
    (files later : FilesState) → ReadsForm files.contents names.expression.now x
    → ((events : List GivenEvent) → HasEvents script events
    → ReadsEvents files.contents names.script.now events)
    → JobOver (around_of files later before after) (replay_of names) is status whole part session

-- how a serve may end over a site, where a file stands for the form
abbrev pub ServesOver : Form → ServeWords → SiteState → SiteState → Crashes
    → ℕ → List ℕ → List ℕ → Option Session → Type 0
ServesOver x names before after is status whole part session =
    (files later : FilesState) → ReadsForm files.contents names.expression.now x
    → JobOver (around_of files later before after) (serve_of names) is status whole part session
