use Rattle.std.proofs.Common.{◌∙◌, sym}
use Rattle.ix_manager.proofs.SavingLemmas.{only_none, only_one}
use Rattle.ix_manager.proofs.SendSteps.{silent_sent, one_sent}
use Rattle.ix_manager.proofs.sending.send_reply.Goals as goal

-- the connection is marked
pub returns-then-gone-clause-sends : goal.returns-then-gone-clause-sends
returns-then-gone-clause-sends g c = silent_sent c.args.conn c.args.reply.now _ c.if-gone.true

pub returns-then-gone-clause-only : goal.returns-then-gone-clause-only
returns-then-gone-clause-only g c =
    only_none (g.S.Site.state c.args.site.now) (g.S.Site.crashes c.args.site.now) (g.met.S.Site.lawful c.args.site.now)

-- the send answered Gone
pub returns-then-is_err-clause-sends : goal.returns-then-is_err-clause-sends
returns-then-is_err-clause-sends g c =
    one_sent c.args.conn c.args.reply.now c.as_slice.result.now c.send.result _ _
    (c.as_slice.ensures.value ∙ c.write.ensures.text) c.if-gone.false (sym c.if-is_err.true ∙ c.is_err.ensures.value)
    c.send.ensures.contents c.send.ensures.failed c.send.ensures.rest

pub returns-then-is_err-clause-only : goal.returns-then-is_err-clause-only
returns-then-is_err-clause-only g c =
    only_one c.args.conn c.as_slice.result.now c.send.result
    (g.S.Site.state c.args.site.now) (g.S.Site.state c.send.new.self)
    (g.S.Site.crashes c.args.site.now) (g.S.Site.crashes c.send.new.self)
    c.send.ensures.rest c.send.ensures.contents c.send.ensures.now c.send.ensures.call

-- the reply is sent
pub returns-else-is_err-clause-sends : goal.returns-else-is_err-clause-sends
returns-else-is_err-clause-sends g c =
    one_sent c.args.conn c.args.reply.now c.as_slice.result.now c.send.result _ _
    (c.as_slice.ensures.value ∙ c.write.ensures.text) c.if-gone.false (c.if-gone.false ∙ sym c.if-is_err.false ∙ c.is_err.ensures.value)
    c.send.ensures.contents c.send.ensures.failed c.send.ensures.rest

pub returns-else-is_err-clause-only : goal.returns-else-is_err-clause-only
returns-else-is_err-clause-only g c =
    only_one c.args.conn c.as_slice.result.now c.send.result
    (g.S.Site.state c.args.site.now) (g.S.Site.state c.send.new.self)
    (g.S.Site.crashes c.args.site.now) (g.S.Site.crashes c.send.new.self)
    c.send.ensures.rest c.send.ensures.contents c.send.ensures.now c.send.ensures.call
