use Rattle.std.proofs.Common.{◌∙◌, refl, subst}
use Rattle.ix_outside.specs.Sink.{AppendsPart}
use Rattle.ix_manage.proofs.FeedLemmas.{fed_refused, fed_unput}
use Rattle.ix_manage.proofs.follow.feed_line.Goals as goal

-- a line was refused
pub returns-in_err-answer-clause-fed : goal.returns-in_err-answer-clause-fed
returns-in_err-answer-clause-fed g c =
    let sink = g.K.Sink.state c.args.out.now in
    fed_refused c.from_residual.result c.args.follower.now c.args.line.now c.feed.new.self.history sink sink
    c.in_err-answer.field-0.0 c.from_residual.ensures.1 c.in_err-answer.ensures.feeds refl

-- its answer wasn't put
pub returns-in_err-put-clause-fed : goal.returns-in_err-put-clause-fed
returns-in_err-put-clause-fed g c =
    let old = g.K.Sink.state c.args.out.now in
    let new = g.K.Sink.state c.put.new.self in
    fed_unput c.from_residual-in_err-put.result c.args.follower.now c.args.line.now c.feed.new.self.history old new
    c.in_ok-answer.answer c.from_residual-in_err-put.ensures.1 c.in_ok-answer.ensures.feeds
    (subst (λ line. AppendsPart old.written line new.written) (c.deref.ensures.0 ∙ c.fed_line.ensures) c.in_err-put.ensures.part)
    c.in_err-put.ensures.failed
