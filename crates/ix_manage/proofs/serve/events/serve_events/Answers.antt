use Rattle.std.proofs.Common.{◌≡◌, ◌<◌, [], length, refl, sym, ◌∙◌, arith}
use Rattle.std.proofs.lemmas.List.{length_push}
use Rattle.ix_manage.specs.declared.event_outcome.EventOutcome.{EventOutcome}
use Rattle.ix_manage.specs.declared.event_outcome.EventOutcome.TheVariants.{More, Done, Cut, Failed}
use Rattle.ix_manager.specs.RunLaws.{given_event}
use Rattle.ix_manage.proofs.Devices.{served_still, served_then}
use Rattle.ix_manage.proofs.ServeLemmas.{cut_unheard, serves_first, serves_fits, serves_more, taken_over, outcome_cut, outcome_done, outcome_failed, turns_out}
use Rattle.ix_manage.proofs.serve.events.serve_events.Goals as goal

pub loop-turn-init : goal.loop-turn-init
loop-turn-init g c =
    let site = c.args.site.now in (
      (
        [],
        refl,
        serves_first c.args.manager.now (g.S.Site.state site) (g.S.Site.crashes site) c.requires.manager
            (g.met.S.Site.lawful site) c.requires.fits,
      ),
      served_still (g.S.Site.state site),
    )

pub serve_event-requires-clause-going : goal.serve_event-requires-clause-going
serve_event-requires-clause-going g c = c.loop-turn.invariant.0.2.follows.not_ended

pub serve_event-requires-clause-tickets : goal.serve_event-requires-clause-tickets
serve_event-requires-clause-tickets g c =
    let at = c.loop-turn.invariant.0 in
    let all = at.1 in
    let least = at.2.tickets in
    let few : length at.0 < 1000000000 = omega (arith, all) in omega (arith, few, least)

pub serve_event-requires-clause-attached : goal.serve_event-requires-clause-attached
serve_event-requires-clause-attached g c = c.loop-turn.invariant.1.attached ∙ c.requires.attached

pub serve_event-requires-clause-fits : goal.serve_event-requires-clause-fits
serve_event-requires-clause-fits g c = serves_fits c.loop-turn.invariant.0.2

not_cut : (outcome other : EventOutcome) → outcome ≡ other → (other ≡ Cut → ⊥) → outcome ≡ Cut → ⊥
not_cut outcome other is not cut = not (sym is ∙ cut)

pub loop-turn-preserved : goal.loop-turn-preserved
loop-turn-preserved g c =
    let at = c.loop-turn.invariant in
    let site = c.serve_event.new.site in
    let it = taken_over c.serve_event.ensures.outcome (not_cut _ More c.in-More.is (λ is. cc)) in
    let count = length_push at.0.0 (given_event it.event it.piece) in
    let all = at.0.1 in (
      (
        _,
        omega (arith, count, all),
        serves_more it at.0.2 (g.met.S.Site.lawful site) at.1.calls.send c.serve_event.ensures.site.calls.send c.in-More.is,
      ),
      served_then _ _ _ at.1 c.serve_event.ensures.site,
    )

pub returns-in-Done-clause-serves : goal.returns-in-Done-clause-serves
returns-in-Done-clause-serves g c =
    let at = c.loop-turn.invariant in
    let site = c.serve_event.new.site in
    let it = taken_over c.serve_event.ensures.outcome (not_cut _ Done c.in-Done.is (λ is. cc)) in
    let count = length_push at.0.0 (given_event it.event it.piece) in
    let all = at.0.1 in
    outcome_done it at.0.2 (g.met.S.Site.lawful site) at.1.calls.send c.serve_event.ensures.site.calls.send
    c.args.turns (omega (arith, count, all)) c.args.manager.now refl _ c.in-Done.is

pub returns-in-Done-clause-site : goal.returns-in-Done-clause-site
returns-in-Done-clause-site g c = served_then _ _ _ c.loop-turn.invariant.1 c.serve_event.ensures.site

pub returns-in-Cut-clause-serves : goal.returns-in-Cut-clause-serves
returns-in-Cut-clause-serves g c =
    let at = c.loop-turn.invariant in
    let all = at.0.1 in
    outcome_cut at.0.2 (cut_unheard c.serve_event.ensures.outcome c.in-Cut.is) (g.met.S.Site.lawful c.serve_event.new.site)
    c.serve_event.ensures.site.calls.send at.1.calls.wire c.args.turns (omega (arith, all)) c.args.manager.now refl

pub returns-in-Cut-clause-site : goal.returns-in-Cut-clause-site
returns-in-Cut-clause-site g c = served_then _ _ _ c.loop-turn.invariant.1 c.serve_event.ensures.site

-- the disk failed
pub returns-in-Failed-clause-serves : goal.returns-in-Failed-clause-serves
returns-in-Failed-clause-serves g c =
    let at = c.loop-turn.invariant in
    let site = c.serve_event.new.site in
    let it = taken_over c.serve_event.ensures.outcome (not_cut _ Failed c.in-Failed.is (λ is. cc)) in
    let count = length_push at.0.0 (given_event it.event it.piece) in
    let all = at.0.1 in
    outcome_failed it at.0.2 (g.met.S.Site.lawful site) at.1.calls.send c.serve_event.ensures.site.calls.send
    c.args.turns (omega (arith, count, all)) c.args.manager.now refl c.in-Failed.is

pub returns-in-Failed-clause-site : goal.returns-in-Failed-clause-site
returns-in-Failed-clause-site g c = served_then _ _ _ c.loop-turn.invariant.1 c.serve_event.ensures.site

pub returns-clause-serves : goal.returns-clause-serves
returns-clause-serves g c =
    let at = c.loop-turn.invariant in
    let all = at.0.1 in turns_out at.0.2 c.args.turns (omega (arith, all)) c.args.manager.now refl
