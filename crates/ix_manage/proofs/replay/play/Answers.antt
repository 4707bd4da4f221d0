use Rattle.std.proofs.Common.{Err}
use Rattle.std.specs.Prelude.{⊤}
use Rattle.ix_manage.proofs.Playing.{session_plays, unstarted_plays}
use Rattle.ix_manage.proofs.Stops.{ends_early, leaves_on}
use Rattle.ix_manage.proofs.replay.play.Goals as goal

-- no run was started
pub returns-in_err-manager-clause-leaves : goal.returns-in_err-manager-clause-leaves
returns-in_err-manager-clause-leaves g c =
    let sink = g.K.Sink.state c.args.out.now in
    let before = g.S.Site.state c.args.site.now in
    let after = g.S.Site.state c.open.new.site in
    ends_early _ _ _ c.from_residual.result c.in_err-manager.field-0.0 c.from_residual.ensures.1
    (leaves_on
    (unstarted_plays c.args.expression c.args.names c.args.script before c.requires.events
    after (g.S.Site.crashes c.open.new.site))
    sink sink {T = ⊤} (Err c.in_err-manager.field-0.0) (c.in_err-manager.ensures.stops sink))

pub run_script-requires-clause-attached : goal.run_script-requires-clause-attached
run_script-requires-clause-attached g c = c.in_ok-manager.ensures.starts.attached

-- a run was started
pub returns-clause-leaves : goal.returns-clause-leaves
returns-clause-leaves g c =
    let before = g.S.Site.state c.args.site.now in
    let mid = g.S.Site.state c.open.new.site in
    let q = g.S.Site.crashes c.open.new.site in
    let end = g.S.Site.state c.run_script.new.site in
    let r = g.S.Site.crashes c.run_script.new.site in
    leaves_on
    (session_plays c.args.expression c.args.names c.args.script before c.requires.events
    mid end q r (g.met.S.Site.lawful c.run_script.new.site) c.in_ok-manager.manager c.in_ok-manager.ensures.starts c.run_script.ensures.site
    c.run_script.new.manager.machine)
    (g.K.Sink.state c.args.out.now) (g.K.Sink.state c.run_script.new.out)
    c.run_script.result c.run_script.ensures.leaves
