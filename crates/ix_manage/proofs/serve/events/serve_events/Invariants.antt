use Rattle.std.proofs.Common.{◌≡◌, List, length}
use Rattle.ix_outside.specs.Contents.{GivenEvent}
use Rattle.ix_outside.specs.Crashes.{stretch_of}
use Rattle.ix_manage.specs.inside.ServeProgress.{OnlyServed, HasServed}
use Rattle.ix_manage.specs.inside.Progress.{opening_at}
use Rattle.ix_manage.proofs.serve.events.serve_events.Given as goal

-- the manager took as many events as turns were made, and of the site only what serving calls changed
abbrev pub invariant-loop-turn : goal.invariant-loop-turn
invariant-loop-turn g l =
    ((taken : List GivenEvent) × (length taken ≡ l._turn)
    × HasServed (opening_at l.fn.manager) taken l.manager
    (stretch_of g.S.Site.state g.S.Site.crashes l.fn.site l.site))
    × OnlyServed (g.S.Site.state l.fn.site) (g.S.Site.state l.site)
