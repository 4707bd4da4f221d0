use Rattle.std.proofs.Common.{length, refl, ap, subst, arith, ◌∙◌}
use Rattle.ix_script.specs.inside.Site.{playing}
use Rattle.ix_manage.specs.Ends.{Ended}
use Rattle.ix_manage.specs.declared.refusal.Refusal.TheVariants.{Disk, Turns}
use Rattle.ix_manage.specs.declared.early_end.EarlyEnd.TheVariants.{Refused}
use Rattle.ix_manage.specs.inside.Leaves.{StopsAfter}
use Rattle.ix_manage.specs.inside.ReplayProgress.{ReplaysScript, disk_stretch, player}
use Rattle.ix_manage.specs.inside.Progress.{opening_at}
use Rattle.ix_manage.proofs.Devices.{plays_still, plays_then}
use Rattle.ix_manage.proofs.Journaling.{alone_lawful}
use Rattle.ix_manage.proofs.Replaying.{stands_first, stands_between, stands_fits, out_of_turns_put}
use Rattle.ix_manage.proofs.Replaying.{outcome_more, outcome_done, outcome_failed, outcome_cut, taken_count}
use Rattle.ix_manage.proofs.replay.events.take_events.Goals as goal

pub loop-turn-init : goal.loop-turn-init
loop-turn-init g c =
    let start = player g.S.Site.state g.K.Sink.state c.args.site.now in
    let site = (playing c.args.site.now).site in (
      stands_first c.args.manager.now start _ _ c.requires.manager c.requires.player
          (alone_lawful (g.S.Site.state site) (g.S.Site.crashes site) (g.met.S.Site.lawful site))
          c.requires.fits,
      ap length c.requires.player.given,
      plays_still start,
      refl,
      refl,
    )

pub take_event-requires-clause-between : goal.take_event-requires-clause-between
take_event-requires-clause-between g c =
    let at = c.loop-turn.invariant in
    let all = at.1 in
    stands_between at.0 (omega (arith, all))

pub take_event-requires-clause-attached : goal.take_event-requires-clause-attached
take_event-requires-clause-attached g c = c.loop-turn.invariant.2.site.attached ∙ c.requires.attached

pub take_event-requires-clause-fits : goal.take_event-requires-clause-fits
take_event-requires-clause-fits g c = stands_fits c.loop-turn.invariant.0

pub loop-turn-preserved : goal.loop-turn-preserved
loop-turn-preserved g c =
    let at = c.loop-turn.invariant in
    let took = c.take_event.ensures.outcome in
    let count = taken_count took in
    let site = (playing c.take_event.new.site).site in
    let all = at.1 in (
      outcome_more took at.0 (alone_lawful (g.S.Site.state site) (g.S.Site.crashes site) (g.met.S.Site.lawful site))
          c.in-More.is c.take_event.ensures.plays,
      omega (arith, count, all),
      plays_then _ _ _ at.2 c.take_event.ensures.plays,
      c.take_event.ensures.same_sink ∙ at.3,
      c.take_event.ensures.same_site ∙ at.4,
    )

pub returns-in-Done-clause-leaves : goal.returns-in-Done-clause-leaves
returns-in-Done-clause-leaves g c = λ start put.
    let at = c.loop-turn.invariant in
    let took = c.take_event.ensures.outcome in
    let count = taken_count took in
    let all = at.1 in
    let site = (playing c.take_event.new.site).site in
    let now = player g.S.Site.state g.K.Sink.state c.take_event.new.site in
    let stretch = disk_stretch g.S.Site.state g.S.Site.crashes (playing c.args.site.now).site site in
    subst (λ script. Ended (ReplaysScript (opening_at c.args.manager.now) c.args.turns script now.given c.take_event.new.manager.machine stretch) 0 start now.sink)
    at.2.script
    (outcome_done took at.0 (alone_lawful (g.S.Site.state site) (g.S.Site.crashes site) (g.met.S.Site.lawful site))
    c.args.turns (omega (arith, count, all)) start put.put c.in-Done.is)

pub returns-in-Cut-clause-leaves : goal.returns-in-Cut-clause-leaves
returns-in-Cut-clause-leaves g c = λ start put.
    let at = c.loop-turn.invariant in
    let took = c.take_event.ensures.outcome in
    let count = taken_count took in
    let all = at.1 in
    let before = put.rest.faults in
    let so_far = at.2.puts.faults in
    let site = (playing c.take_event.new.site).site in
    let now = player g.S.Site.state g.K.Sink.state c.take_event.new.site in
    let stretch = disk_stretch g.S.Site.state g.S.Site.crashes (playing c.args.site.now).site site in
    let cut = outcome_cut took at.0 (alone_lawful (g.S.Site.state site) (g.S.Site.crashes site) (g.met.S.Site.lawful site))
    c.args.turns (omega (arith, count, all)) start put.put c.in-Cut.is (omega (arith, before, so_far)) in
    subst (λ script. Ended (ReplaysScript (opening_at c.args.manager.now) c.args.turns script now.given c.take_event.new.manager.machine stretch) 10 start now.sink)
    at.2.script cut

-- the disk failed
pub returns-in-Failed-clause-leaves : goal.returns-in-Failed-clause-leaves
returns-in-Failed-clause-leaves g c = λ start put.
    let at = c.loop-turn.invariant in
    let took = c.take_event.ensures.outcome in
    let count = taken_count took in
    let all = at.1 in
    let site = (playing c.take_event.new.site).site in
    let now = player g.S.Site.state g.K.Sink.state c.take_event.new.site in
    let stretch = disk_stretch g.S.Site.state g.S.Site.crashes (playing c.args.site.now).site site in
    let failed = outcome_failed took at.0 (alone_lawful (g.S.Site.state site) (g.S.Site.crashes site) (g.met.S.Site.lawful site))
    c.args.turns (omega (arith, count, all)) start put.put c.in-Failed.is in
    subst (λ script. StopsAfter (ReplaysScript (opening_at c.args.manager.now) c.args.turns script now.given c.take_event.new.manager.machine stretch) start now.sink (Refused Disk))
    at.2.script failed

pub returns-clause-leaves : goal.returns-clause-leaves
returns-clause-leaves g c = λ start put.
    let at = c.loop-turn.invariant in
    let all = at.1 in
    let now = player g.S.Site.state g.K.Sink.state c.loop-turn.site in
    let stretch = disk_stretch g.S.Site.state g.S.Site.crashes (playing c.args.site.now).site (playing c.loop-turn.site).site in
    subst (λ script. StopsAfter (ReplaysScript (opening_at c.args.manager.now) c.args.turns script now.given c.loop-turn.manager.machine stretch) start now.sink (Refused Turns))
    at.2.script
    (out_of_turns_put at.0 c.args.turns (omega (arith, all)) start put.put)
