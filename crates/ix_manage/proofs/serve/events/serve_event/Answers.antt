use Rattle.std.proofs.Common.{ℕ, List, refl, sym, ap, subst, ◌∙◌}
use Rattle.ix_outside.specs.Contents.{Contents, with_event}
use Rattle.ix_outside.specs.Counts.{Rose}
use Rattle.ix_outside.specs.Event.{KindFits}
use Rattle.ix_manager.specs.Handled.{KindHas}
use Rattle.ix_manager.proofs.SavingLemmas.{fits_sends, saves_join}
use Rattle.ix_manager.proofs.ServingLemmas.{serves_call, serves_handled}
use Rattle.ix_manage.specs.inside.ServeProgress.{took, unheard}
use Rattle.ix_manage.proofs.Devices.{served_event, served_then, served_wire}
use Rattle.ix_manage.proofs.Journaling.{event_saves, told_before}
use Rattle.ix_manage.proofs.Replaying.{piece_has}
use Rattle.ix_manage.proofs.ServeLemmas.{next_only, wire_saves}
use Rattle.ix_manage.proofs.serve.events.serve_event.Goals as goal

-- no event came
pub returns-in-Err-clause-outcome : goal.returns-in-Err-clause-outcome
returns-in-Err-clause-outcome g c =
    let m = c.args.manager.now in
    let a = g.S.Site.state c.args.site.now in
    let b = g.S.Site.state c.next.new.self in
    let p = g.S.Site.crashes c.args.site.now in
    let q = g.S.Site.crashes c.next.new.self in
    let lawful = g.met.S.Site.lawful c.args.site.now in
    let lawful' = g.met.S.Site.lawful c.next.new.self in
    let told = c.in-Err.ensures in
    let sends = ap (λ (k : Contents). k.sends) told.contents in
    unheard refl told.contents told.failed
    (wire_saves m.form m.machine m.store a b p q lawful lawful' c.requires.fits
    (next_only a b p q told.rest told.now told.call sends))
    (λ t least start taken answers serves.
    serves_call t m.form least m.machine.history m.machine.renewed start taken answers m.marks a b p q lawful lawful'
    told.call told.now sends told.rest.file serves)

pub returns-in-Err-clause-site : goal.returns-in-Err-clause-site
returns-in-Err-clause-site g c = served_wire _ _ c.in-Err.ensures.rest

pub handle-go-requires-clause-fits : goal.handle-go-requires-clause-fits
handle-go-requires-clause-fits g c =
    let m = c.args.manager.now in
    let told = c.in-Ok.ensures in
    let a = g.S.Site.state c.args.site.now in
    let b = g.S.Site.state c.next.new.self in
    let p = g.S.Site.crashes c.args.site.now in
    let q = g.S.Site.crashes c.next.new.self in
    fits_sends m.form m.machine m.store a b p q
    (next_only a b p q told.rest told.now told.call (ap (λ (k : Contents). k.sends) told.contents))
    c.requires.fits

pub returns-clause-outcome : goal.returns-clause-outcome
returns-clause-outcome g c =
    let m = c.args.manager.now in
    let a = g.S.Site.state c.args.site.now in
    let b = g.S.Site.state c.next.new.self in
    let d = g.S.Site.state c.handle-go.new.site in
    let p = g.S.Site.crashes c.args.site.now in
    let q = g.S.Site.crashes c.next.new.self in
    let r = g.S.Site.crashes c.handle-go.new.site in
    let lawful = g.met.S.Site.lawful c.args.site.now in
    let lawful' = g.met.S.Site.lawful c.next.new.self in
    let event = c.in-Ok.event in
    let told = c.in-Ok.ensures in
    let sends = ap (λ (k : Contents). k.sends) told.contents in
    let go = c.handle-go in
    let over = go.ensures.handles in
    let saves = event_saves m go.new.self event c.piece.result.now go.result over.ending over.handles.answers b d q r
    over.answered over.handles.takes over.keeps over.boots over.ends go.ensures.failed go.ensures.fits
    go.ensures.passes go.ensures.site.disk go.ensures.site.opened over.sends in
    took (record {
      event = event;
      piece = c.piece.result.now;
      ending = over.ending;
      fits = (
        told.event.0,
        subst (λ (bytes : List ℕ). KindHas event.kind bytes) (sym c.piece.ensures)
            (piece_has event.kind event.conn c.next.new.buf (c.next.auto.buf ∙ c.requires.buffer)
            (subst (λ n. KindFits n event.conn event.kind) (sym c.next.auto.buf) told.event.1)),
      );
      told = b.contents;
      told_is = told.contents ∙ ap (λ bytes. with_event event bytes a.contents) (sym c.piece.ensures);
      handled = over.handles;
      marked = λ conn opened marked. subst (λ n. Rose n d.counts.send) told.rest.send (go.ensures.marks conn opened marked);
      tickets = go.ensures.tickets;
      outcome_is = c.outcome_of.ensures over.ending over.answered;
      saves = saves_join over.ending m.form m.machine m.machine go.new.self.machine m.store go.new.self.store
          a b d p q r (g.met.S.Site.lawful go.new.site)
          (wire_saves m.form m.machine m.store a b p q lawful lawful'
          c.requires.fits (next_only a b p q told.rest told.now told.call sends))
          saves;
      since = λ t least start taken answers serves.
          serves_handled t m.form least start taken answers m event c.piece.result.now go.result go.new.self b d q r
          lawful' go.ensures.passes refl (told_before b.disk d.disk go.ensures.site.opened) over
          (serves_call t m.form least m.machine.history m.machine.renewed start taken answers m.marks a b p q lawful lawful'
          told.call told.now sends told.rest.file serves);
    })

pub returns-clause-site : goal.returns-clause-site
returns-clause-site g c =
    served_then _ _ _ (served_wire _ _ c.in-Ok.ensures.rest) (served_event _ _ c.handle-go.ensures.site)
