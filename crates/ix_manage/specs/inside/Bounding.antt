-- A bound.
use Rattle.std.specs.Prelude.{ℕ, List, Option}
use Rattle.ix_outside.specs.FilesState.{FilesState}
use Rattle.ix_outside.specs.SiteState.{SiteState}
use Rattle.ix_cli.specs.Words.{bound}
use Rattle.ix_manage.specs.Around.{around_of}
use Rattle.ix_manage.specs.Ends.{JobEnds}
use Rattle.ix_manage.specs.Session.{Session}

-- how a bound may end, whatever the site, which it leaves as it is
abbrev pub BoundEnds : FilesState → FilesState → List ℕ → ℕ
    → ℕ → List ℕ → List ℕ → Option Session → Type 0
BoundEnds files later name count status whole part session = (site : SiteState)
    → JobEnds (around_of files later site site) (bound name count) status whole part session
