use Rattle.ix_manager.proofs.OverLemmas.{confirm_over, failure_over}
use Rattle.ix_manager.proofs.answering.answer_confirm.Goals as goal

pub returns-in-Ok : goal.returns-in-Ok
returns-in-Ok g c =
    let a = c.args.site.now in
    let b = c.confirm.new.site in
    let d = c.send_reply.new.site in
    confirm_over c.args.conn c.args.ticket c.args.journaled.now c.confirm.new.self c.args.gone.now c.send_reply.new.gone
    (g.S.Site.state a) (g.S.Site.state b) (g.S.Site.state d) (g.S.Site.crashes a) (g.S.Site.crashes b) (g.S.Site.crashes d)
    (g.met.S.Site.lawful b) (g.met.S.Site.lawful d) c.send_reply.ensures.only
    c.in-Ok.reply c.in-Ok.ensures c.send_reply.ensures.sends

-- the disk failed
pub returns-in-Err : goal.returns-in-Err
returns-in-Err g c =
    let a = c.args.site.now in
    let b = c.confirm.new.site in
    let d = c.send_reply-in-Err.new.site in
    failure_over c.args.conn c.args.ticket c.args.journaled.now c.confirm.new.self c.args.gone.now c.send_reply-in-Err.new.gone
    (g.S.Site.state a) (g.S.Site.state b) (g.S.Site.state d) (g.S.Site.crashes a) (g.S.Site.crashes b) (g.S.Site.crashes d)
    (g.met.S.Site.lawful b) (g.met.S.Site.lawful d) c.send_reply-in-Err.ensures.only
    c.in-Err.stop c.refused.result c.in-Err.ensures c.refused.ensures c.send_reply-in-Err.ensures.sends
