use Rattle.std.proofs.Common.{Err}
use Rattle.std.specs.Prelude.{⊤}
use Rattle.ix_manage.proofs.ServeEnding.{session_serves, unstarted_serves}
use Rattle.ix_manage.proofs.Stops.{ends_early, leaves_on}
use Rattle.ix_manage.proofs.serve.begin.Goals as goal

-- no run was started
pub returns-in_err-manager-clause-leaves : goal.returns-in_err-manager-clause-leaves
returns-in_err-manager-clause-leaves g c =
    let sink = g.K.Sink.state c.args.out.now in
    ends_early _ _ _ c.from_residual.result c.in_err-manager.field-0.0 c.from_residual.ensures.1
    (leaves_on
    (unstarted_serves c.args.expression c.args.names (g.S.Site.state c.args.site.now)
    (g.S.Site.state c.open.new.site) (g.S.Site.crashes c.open.new.site))
    sink sink {T = ⊤} (Err c.in_err-manager.field-0.0) (c.in_err-manager.ensures.stops sink))

pub take_connections-requires-clause-attached : goal.take_connections-requires-clause-attached
take_connections-requires-clause-attached g c = c.in_ok-manager.ensures.starts.attached

-- a run was started
pub returns-clause-leaves : goal.returns-clause-leaves
returns-clause-leaves g c =
    let take = c.take_connections in
    leaves_on
    (session_serves c.args.expression c.args.names (g.S.Site.state c.args.site.now)
    (g.S.Site.state c.open.new.site) (g.S.Site.state take.new.site)
    (g.S.Site.crashes c.open.new.site) (g.S.Site.crashes take.new.site) (g.met.S.Site.lawful take.new.site)
    c.in_ok-manager.manager c.in_ok-manager.ensures.starts take.ensures.site take.new.manager.machine)
    (g.K.Sink.state c.args.out.now) (g.K.Sink.state take.new.out)
    take.result take.ensures.leaves
