use Rattle.std.proofs.Common.{length, refl, ap, sym, ◌∙◌, subst, arith}
use Rattle.ix_outside.specs.SinkState.{SinkState}
use Rattle.ix_manager.specs.inside.Saving.{SavesRun}
use Rattle.ix_manager.proofs.AcknowledgedLemmas.{more_untold}
use Rattle.ix_script.specs.inside.Site.{ScriptSiteState, playing}
use Rattle.ix_script.specs.inside.WithoutSends.{without_sends}
use Rattle.ix_manage.specs.inside.ReplayProgress.{FitsDisk, OnlyUsesDisk, disk_stretch, disk_alone, player}
use Rattle.ix_manage.specs.inside.Progress.{IsEventOutcome}
use Rattle.ix_manage.proofs.Devices.{holds_same, site_used}
use Rattle.ix_manage.proofs.Journaling.{event_saves, fits_again, ok_fits, passes_again}
use Rattle.ix_manage.proofs.Replaying.{event_taken}
use Rattle.ix_manage.proofs.replay.events.take_event.Goals as goal

pub handle-go-requires-clause-fits : goal.handle-go-requires-clause-fits
handle-go-requires-clause-fits g c =
    fits_again c.args.manager.now _ _ _ _ refl refl
    (subst (FitsDisk g.S.Site.state g.S.Site.crashes c.args.manager.now)
    (sym (ap (λ (s : ScriptSiteState _ _). s.site) c.next_event-event.ensures.rest))
    c.requires.fits)

pub returns-clause-outcome : goal.returns-clause-outcome
returns-clause-outcome g c =
    let next = c.next_event-event in
    let go = c.handle-go in
    let over = go.ensures.handles in
    let now = player g.S.Site.state g.K.Sink.state go.new.site in
    let site = (playing next.new.self).site in
    let last = (playing go.new.site).site in
    let saves = event_saves c.args.manager.now go.new.self next.result c.piece.result.now go.result over.ending over.handles.answers
    (disk_alone (g.S.Site.state site)) (disk_alone (g.S.Site.state last))
    (without_sends (g.S.Site.crashes site)) (without_sends (g.S.Site.crashes last))
    over.answered over.handles.takes over.keeps over.boots over.ends go.ensures.failed
    (ok_fits go.result go.new.self _ _ _ _ refl refl go.ensures.fits)
    (passes_again _ _ _ _ _ _ refl refl go.ensures.passes) go.ensures.site.disk go.ensures.site.opened
    (more_untold (disk_alone (g.S.Site.state site)) (disk_alone (g.S.Site.state last))
    (without_sends (g.S.Site.crashes site)) (without_sends (g.S.Site.crashes last)) refl) in
    event_taken (length c.args.buffer.now) c.args.manager.now go.new.self
    (player g.S.Site.state g.K.Sink.state c.args.site.now)
    (player g.S.Site.state g.K.Sink.state next.new.self) now
    next.new.buf c.piece.result.now next.result over.ending c.outcome_of.result
    (disk_stretch g.S.Site.state g.S.Site.crashes (playing c.args.site.now).site last)
    c.requires.buffer next.ensures.given
    (ap (λ (s : ScriptSiteState _ _). g.K.Sink.state s.sink) next.ensures.rest)
    (ap (λ (s : ScriptSiteState _ _). s.sink_failed) next.ensures.rest) c.piece.ensures next.ensures.fits next.auto.buf next.ensures.next
    over.handles go.ensures.tickets c.requires.between
    (subst (λ failed. IsEventOutcome failed over.ending next.result.kind c.outcome_of.result)
    c.sink_failed.ensures (c.outcome_of.ensures over.ending over.answered))
    go.ensures.marks
    (subst (λ s. SavesRun over.ending c.args.manager.now go.new.self
    (disk_stretch g.S.Site.state g.S.Site.crashes s last))
    (ap (λ (s : ScriptSiteState _ _). s.site) next.ensures.rest) saves)

-- of the lent site only the disk is called
pub returns-clause-plays : goal.returns-clause-plays
returns-clause-plays g c =
    let next = c.next_event-event in
    let sent = c.handle-go.ensures.site in
    let last = playing c.handle-go.new.site in
    let script = ap (λ (s : ScriptSiteState _ _). s.script) next.ensures.rest in
    let sink = ap (λ (s : ScriptSiteState _ _). g.K.Sink.state s.sink) next.ensures.rest in
    let held = holds_same (g.S.Site.state (playing next.new.self).site) (g.S.Site.state last.site) sent.held in
    let faults = sent.send in
    let before = ap (λ (s : SinkState). s.faults) sink in record {
      script = held.0 ∙ script;
      puts = record {
        faults = omega (arith, faults, before);
        held = held.1 ∙ ap (λ (s : SinkState). s.held) sink;
      };
      site = subst (λ s. OnlyUsesDisk (g.S.Site.state s) (g.S.Site.state last.site))
          (ap (λ (s : ScriptSiteState _ _). s.site) next.ensures.rest)
          (site_used sent.held sent.disk sent.attached sent.opened);
    }
