use Rattle.std.proofs.Common.{◌∙◌, [], None, subst}
use Rattle.ix_outside.specs.Sink.{AppendsPart}
use Rattle.ix_manage.specs.Puts.{put, lost}
use Rattle.ix_manage.specs.declared.refusal.Refusal.TheVariants.{Memory}
use Rattle.ix_manage.specs.declared.early_end.EarlyEnd.TheVariants.{Output, Refused}
use Rattle.ix_manage.proofs.Stops.{ended_cut, ended_whole, ends_early, nothing_put}
use Rattle.ix_manage.proofs.Tracing.{append_nothing}
use Rattle.ix_manage.proofs.WorkEnding.{refused_work, short_work, work_ends}
use Rattle.ix_manage.proofs.work.work.Goals as goal

-- no engine is made
pub returns-in_err-engine-clause-leaves : goal.returns-in_err-engine-clause-leaves
returns-in_err-engine-clause-leaves g c =
    let refusal = c.in_err-engine.field-0.0 in
    ends_early _ _ _ c.from_residual.result (Refused refusal) c.from_residual.ensures.1
    (nothing_put refusal (g.K.Sink.state c.args.out.now)
    (refused_work c.args.names refusal c.in_err-engine.ensures.err))

-- memory runs out at an ask
pub returns-in_err-summary-clause-leaves : goal.returns-in_err-summary-clause-leaves
returns-in_err-summary-clause-leaves g c =
    ends_early _ _ _ c.from_residual-in_err-summary.result (Refused Memory) c.from_residual-in_err-summary.ensures.1
    (nothing_put Memory (g.K.Sink.state c.args.out.now) (short_work c.args.names))

-- its put fails
pub returns-in_err-put-clause-leaves : goal.returns-in_err-put-clause-leaves
returns-in_err-put-clause-leaves g c =
    let line = c.deref.result.now in
    let engine = c.in_ok-engine.engine in
    let start = c.in_ok-engine.ensures in
    ends_early _ _ _ c.from_residual-in_err-put.result Output c.from_residual-in_err-put.ensures.1
    (ended_cut (g.K.Sink.state c.args.out.now) (g.K.Sink.state c.put.new.self) [] line None
    (work_ends c.args.names engine.form c.in_ok-summary.summary start.stands start.small
    c.in_ok-summary.ensures line (c.deref.ensures.0 ∙ c.line.ensures) 10 [] line lost)
    (subst (λ known. AppendsPart known line (g.K.Sink.state c.put.new.self).written)
    (append_nothing (g.K.Sink.state c.args.out.now).written) c.in_err-put.ensures.part)
    c.in_err-put.ensures.failed)

-- the line is put
pub returns-clause-leaves : goal.returns-clause-leaves
returns-clause-leaves g c =
    let line = c.deref.result.now in
    let engine = c.in_ok-engine.engine in
    let start = c.in_ok-engine.ensures in
    ended_whole (g.K.Sink.state c.args.out.now) (g.K.Sink.state c.put.new.self) line None
    (work_ends c.args.names engine.form c.in_ok-summary.summary start.stands start.small
    c.in_ok-summary.ensures line (c.deref.ensures.0 ∙ c.line.ensures) 0 line [] put)
    c.in_ok-put.ensures.whole
