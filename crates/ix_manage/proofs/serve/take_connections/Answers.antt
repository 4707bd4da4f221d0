use Rattle.std.proofs.Common.{ap, ◌∙◌, arith}
use Rattle.std.specs.Io.KnownBytes.{append_known}
use Rattle.ix_manager.proofs.SavingLemmas.{fits_sends}
use Rattle.ix_manage.specs.declared.early_end.EarlyEnd.TheVariants.{Output, Refused}
use Rattle.ix_manage.specs.Session.{length_line}
use Rattle.ix_manage.proofs.Replaying.{saves_resting}
use Rattle.ix_manage.specs.declared.refusal.Refusal.TheVariants.{Wire}
use Rattle.ix_manage.specs.inside.ServeProgress.{unheard}
use Rattle.ix_manage.proofs.Devices.{served_then, served_wire}
use Rattle.ix_outside.specs.Contents.{Contents}
use Rattle.ix_manage.proofs.ServeEnding.{history_lost, leaves_serving, listen_only, listen_since}
use Rattle.ix_manage.proofs.ServeLemmas.{next_only, wire_saves}
use Rattle.ix_manage.proofs.Stops.{ends_early, nothing_put}
use Rattle.ix_manage.proofs.serve.take_connections.Goals as goal

-- nothing was listened to
pub returns-in_err-listen-clause-leaves : goal.returns-in_err-listen-clause-leaves
returns-in_err-listen-clause-leaves g c =
    let m = c.args.manager.now in
    let old = c.args.site.now in
    let new = c.listen.new.self in
    let saves = wire_saves m.form m.machine m.store (g.S.Site.state old) (g.S.Site.state new) (g.S.Site.crashes old) (g.S.Site.crashes new)
    (g.met.S.Site.lawful old) (g.met.S.Site.lawful new) c.requires.fits
    (next_only (g.S.Site.state old) (g.S.Site.state new) (g.S.Site.crashes old) (g.S.Site.crashes new)
    c.in_err-listen.ensures.rest c.in_err-listen.ensures.now c.in_err-listen.ensures.call (ap (λ (k : Contents). k.sends) c.in_err-listen.ensures.contents)) in
    ends_early _ _ _ c.from_residual.result (Refused Wire) c.from_residual.ensures.1
    (nothing_put Wire (g.K.Sink.state c.args.out.now)
    (λ status whole part last. unheard m.store c.in_err-listen.ensures.contents (saves_resting m c.requires.manager saves) c.in_err-listen.ensures.failed last))

pub returns-in_err-listen-clause-site : goal.returns-in_err-listen-clause-site
returns-in_err-listen-clause-site g c = served_wire _ _ c.in_err-listen.ensures.rest

-- the put of the history's line fails
pub returns-in_err-put-clause-leaves : goal.returns-in_err-put-clause-leaves
returns-in_err-put-clause-leaves g c =
    let m = c.args.manager.now in
    let old = c.args.site.now in
    let new = c.listen.new.self in
    let saves = wire_saves m.form m.machine m.store (g.S.Site.state old) (g.S.Site.state new) (g.S.Site.crashes old) (g.S.Site.crashes new)
    (g.met.S.Site.lawful old) (g.met.S.Site.lawful new) c.requires.fits
    (listen_only c.args.names.socket.now (g.S.Site.state old) (g.S.Site.state new) (g.S.Site.crashes old) (g.S.Site.crashes new)
    c.in_ok-listen.ensures.contents (g.met.S.Site.lawful old) (g.met.S.Site.lawful new)
    c.in_ok-listen.ensures.rest c.in_ok-listen.ensures.now c.in_ok-listen.ensures.call) in
    let since = listen_since c.args.names.socket.now (g.S.Site.state old) (g.S.Site.state new) (g.S.Site.crashes old) (g.S.Site.crashes new)
    c.in_ok-listen.ensures.contents (g.met.S.Site.lawful old) (g.met.S.Site.lawful new)
    c.in_ok-listen.ensures.rest c.in_ok-listen.ensures.now c.in_ok-listen.ensures.call m.form m.machine m.store saves in
    ends_early _ _ _ c.from_residual-in_err-put.result Output c.from_residual-in_err-put.ensures.1
    (history_lost m c.requires.manager c.args.names.turns c.args.names.socket.now c.deref.result.now
    (g.S.Site.state old) (g.S.Site.state new) (g.S.Site.crashes old) (g.S.Site.crashes new) saves
    c.in_ok-listen.ensures.contents c.in_ok-listen.ensures.rest.send since
    (g.K.Sink.state c.args.out.now) (g.K.Sink.state c.put.new.self)
    (c.deref.ensures.0 ∙ c.history_line.ensures ∙ ap length_line c.count.ensures)
    c.in_err-put.ensures.part c.in_err-put.ensures.failed)

pub returns-in_err-put-clause-site : goal.returns-in_err-put-clause-site
returns-in_err-put-clause-site g c = served_wire _ _ c.in_ok-listen.ensures.rest

pub serve_events-requires-clause-fits : goal.serve_events-requires-clause-fits
serve_events-requires-clause-fits g c =
    let m = c.args.manager.now in
    let old = c.args.site.now in
    let new = c.listen.new.self in
    fits_sends m.form m.machine m.store (g.S.Site.state old) (g.S.Site.state new) (g.S.Site.crashes old) (g.S.Site.crashes new)
    (listen_only c.args.names.socket.now (g.S.Site.state old) (g.S.Site.state new) (g.S.Site.crashes old) (g.S.Site.crashes new)
    c.in_ok-listen.ensures.contents (g.met.S.Site.lawful old) (g.met.S.Site.lawful new)
    c.in_ok-listen.ensures.rest c.in_ok-listen.ensures.now c.in_ok-listen.ensures.call)
    c.requires.fits

pub returns-clause-leaves : goal.returns-clause-leaves
returns-clause-leaves g c =
    let m = c.args.manager.now in
    let old = c.args.site.now in
    let new = c.listen.new.self in
    let end = c.serve_events.new.site in
    let saves = wire_saves m.form m.machine m.store (g.S.Site.state old) (g.S.Site.state new) (g.S.Site.crashes old) (g.S.Site.crashes new)
    (g.met.S.Site.lawful old) (g.met.S.Site.lawful new) c.requires.fits
    (listen_only c.args.names.socket.now (g.S.Site.state old) (g.S.Site.state new) (g.S.Site.crashes old) (g.S.Site.crashes new)
    c.in_ok-listen.ensures.contents (g.met.S.Site.lawful old) (g.met.S.Site.lawful new)
    c.in_ok-listen.ensures.rest c.in_ok-listen.ensures.now c.in_ok-listen.ensures.call) in
    let since = listen_since c.args.names.socket.now (g.S.Site.state old) (g.S.Site.state new) (g.S.Site.crashes old) (g.S.Site.crashes new)
    c.in_ok-listen.ensures.contents (g.met.S.Site.lawful old) (g.met.S.Site.lawful new)
    c.in_ok-listen.ensures.rest c.in_ok-listen.ensures.now c.in_ok-listen.ensures.call m.form m.machine m.store saves in
    leaves_serving c.args.names.turns c.args.names.socket.now m c.serve_events.new.manager
    (g.S.Site.state old) (g.S.Site.state new) (g.S.Site.state end)
    (g.S.Site.crashes old) (g.S.Site.crashes new) (g.S.Site.crashes end)
    (g.met.S.Site.lawful end) c.requires.manager saves c.in_ok-listen.ensures.contents c.in_ok-listen.ensures.rest.send since
    (g.K.Sink.state c.args.out.now) (g.K.Sink.state c.put.new.self)
    (c.in_ok-put.ensures.whole ∙ ap (λ line. append_known (g.K.Sink.state c.args.out.now).written line)
    (c.deref.ensures.0 ∙ c.history_line.ensures ∙ ap length_line c.count.ensures))
    (let same = c.in_ok-listen.ensures.rest.disk in omega (arith, same)) c.in_ok-listen.ensures.rest.wire
    c.serve_events.result c.serve_events.ensures.serves

pub returns-clause-site : goal.returns-clause-site
returns-clause-site g c = served_then _ _ _ (served_wire _ _ c.in_ok-listen.ensures.rest) c.serve_events.ensures.site
