-- A lint.
use Rattle.std.specs.Prelude.{ℕ, List, Option}
use Rattle.ix_outside.specs.FilesState.{FilesState}
use Rattle.ix_outside.specs.SiteState.{SiteState}
use Rattle.ix_cli.specs.Words.{lint}
use Rattle.ix_parse.specs.Symbols.{Meaning}
use Rattle.ix_parse.specs.declared.Placed.{Placed}
use Rattle.ix_manage.specs.Around.{around_of}
use Rattle.ix_manage.specs.Ends.{JobEnds}
use Rattle.ix_manage.specs.Session.{Session}

-- what an expression that was read with its places means
abbrev pub placed_meaning : Placed → Meaning
placed_meaning placed = record { form = placed.expression; places = placed.places.items }

-- how a lint may end, whatever the site, which it leaves as it is
abbrev pub LintEnds : FilesState → FilesState → List ℕ
    → ℕ → List ℕ → List ℕ → Option Session → Type 0
LintEnds files later name status whole part session = (site : SiteState)
    → JobEnds (around_of files later site site) (lint name) status whole part session
