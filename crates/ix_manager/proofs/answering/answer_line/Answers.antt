use Rattle.ix_manager.specs.inside.WireState.{wired}
use Rattle.ix_manager.proofs.OverLemmas.{line_over, fault_over}
use Rattle.ix_manager.proofs.answering.answer_line.Goals as goal

-- the line is a request
pub returns-in-Ok : goal.returns-in-Ok
returns-in-Ok g c =
    line_over c.args.conn c.args.line.now c.in-Ok.request c.answer_request.result c.args.journaled.now c.answer_request.new.journaled _ _
    (g.S.Site.crashes c.args.site.now) (g.S.Site.crashes c.answer_request.new.site) c.in-Ok.ensures c.answer_request.ensures

-- the line is no request
pub returns-in-Err : goal.returns-in-Err
returns-in-Err g c =
    let a = c.args.site.now in
    let b = c.send_reply.new.site in
    fault_over c.args.conn c.args.line.now c.in-Err.fault.code c.refused.result c.args.journaled.now
    (wired c.args.gone.now (g.S.Site.state a)) (wired c.send_reply.new.gone (g.S.Site.state b)) (g.S.Site.crashes a) (g.S.Site.crashes b)
    (g.met.S.Site.lawful a) (g.met.S.Site.lawful b) c.requires.fits c.send_reply.ensures.only
    c.in-Err.ensures c.refused.ensures c.send_reply.ensures.sends
