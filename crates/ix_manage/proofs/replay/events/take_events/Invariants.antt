use Rattle.std.proofs.Common.{◌≡◌, length}
use Rattle.ix_script.specs.inside.Site.{playing}
use Rattle.ix_manage.specs.inside.ReplayProgress.{OnlyPlays, HasPlayed, disk_stretch, player}
use Rattle.ix_manage.specs.inside.Progress.{opening_at}
use Rattle.ix_manage.proofs.replay.events.take_events.Given as goal

-- the manager took the events given so far, one for each turn, and what the site was lent stays
abbrev pub invariant-loop-turn : goal.invariant-loop-turn
invariant-loop-turn g l =
    let first = player g.S.Site.state g.K.Sink.state l.fn.site in
    let now = player g.S.Site.state g.K.Sink.state l.site in
    HasPlayed (opening_at l.fn.manager) first.sink.written l.manager now
    (disk_stretch g.S.Site.state g.S.Site.crashes (playing l.fn.site).site (playing l.site).site)
    × (length now.given ≡ l._turn)
    × OnlyPlays first now
    × ((playing l.site).sink_loan ≡ (playing l.fn.site).sink_loan)
    × ((playing l.site).site_loan ≡ (playing l.fn.site).site_loan)
