use Rattle.std.proofs.Common.{refl, ap, rules, sym, subst, ◌∙◌}
use Rattle.ix_script.specs.inside.Site.{playing}
use Rattle.ix_manage.specs.declared.early_end.EarlyEnd.TheVariants.{Output}
use Rattle.ix_manage.specs.Session.{length_line}
use Rattle.ix_manage.specs.inside.ReplayProgress.{FitsDisk, disk_stretch, player}
use Rattle.ix_manage.specs.inside.Progress.{opening_at}
use Rattle.ix_manage.proofs.Journaling.{alone_lawful, fits_again}
use Rattle.ix_manage.proofs.Replaying.{history_lost, history_put, leaves_over, replays_on}
use Rattle.ix_manage.proofs.Stops.{ends_early, leaves_on}
use Rattle.ix_manage.proofs.replay.run_script.Goals as goal

-- no event was taken
pub returns-in_err-put-clause-leaves : goal.returns-in_err-put-clause-leaves
returns-in_err-put-clause-leaves g c =
    let site = c.args.site.now in
    ends_early _ _ _ c.from_residual.result Output c.from_residual.ensures.1
    (history_lost c.args.manager.now c.requires.manager c.args.turns c.args.script
    c.deref.result.now (g.K.Sink.state c.args.out.now) (g.K.Sink.state c.put.new.self) _ _
    (alone_lawful (g.S.Site.state site) (g.S.Site.crashes site) (g.met.S.Site.lawful site))
    (fits_again c.args.manager.now _ _ _ _ refl refl c.requires.fits)
    (c.deref.ensures.0 ∙ c.history_line.ensures ∙ ap length_line c.count.ensures)
    c.in_err-put.ensures.part c.in_err-put.ensures.failed)

pub take_events-requires-clause-fits : goal.take_events-requires-clause-fits
take_events-requires-clause-fits g c =
    subst (λ site. FitsDisk g.S.Site.state g.S.Site.crashes c.args.manager.now site)
    (sym c.new-all.ensures.site)
    (fits_again c.args.manager.now _ _ _ _ refl refl c.requires.fits)

pub returns-clause-leaves : goal.returns-clause-leaves
returns-clause-leaves g c =
    let manager = c.args.manager.now in
    let start = g.K.Sink.state c.args.out.now in
    let first = c.new-all in
    let at_first = playing first.result in
    let last = player g.S.Site.state g.K.Sink.state c.take_events.new.site in
    let stretch = disk_stretch g.S.Site.state g.S.Site.crashes at_first.site (playing c.take_events.new.site).site in
    let put = history_put (opening_at manager) c.deref.result.now start
    (g.K.Sink.state c.put.new.self) (g.K.Sink.state at_first.sink)
    (c.deref.ensures.0 ∙ c.history_line.ensures ∙ ap length_line c.count.ensures)
    c.in_ok-put.ensures.whole c.in_ok-put.ensures.rest (ap g.K.Sink.state first.ensures.sink) in
    leaves_over g.S.Site.state g.S.Site.crashes (opening_at manager) c.args.turns c.args.script
    c.take_events.new.manager.machine start c.take_events.result
    (leaves_on
    (replays_on (opening_at manager) c.args.turns at_first.script
    c.args.script first.ensures.script last.given c.take_events.new.manager.machine stretch)
    start last.sink c.take_events.result (c.take_events.ensures.leaves start put))
    first.ensures.site (search rules) (search rules)
