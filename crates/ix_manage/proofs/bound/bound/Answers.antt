use Rattle.std.proofs.Common.{[], None, refl, subst, ◌∙◌}
use Rattle.ix_outside.specs.Sink.{AppendsPart}
use Rattle.ix_cli.specs.Words.{bound}
use Rattle.ix_manage.specs.Ends.{bounded, no_memory}
use Rattle.ix_manage.specs.Puts.{LastLine, put, lost}
use Rattle.ix_manage.specs.declared.refusal.Refusal.TheVariants.{Memory}
use Rattle.ix_manage.specs.declared.early_end.EarlyEnd.TheVariants.{Output, Refused}
use Rattle.ix_manage.proofs.Ending.{expression_refused}
use Rattle.ix_manage.proofs.Stops.{ended_cut, ended_whole, ends_early, nothing_put}
use Rattle.ix_manage.proofs.Tracing.{append_nothing}
use Rattle.ix_manage.proofs.bound.bound.Goals as goal

-- no expression is read
pub returns-in_err-placed-clause-leaves : goal.returns-in_err-placed-clause-leaves
returns-in_err-placed-clause-leaves g c =
    let files = g.F.Files.state c.args.files.now in
    let name = c.args.name.now in
    let refusal = c.in_err-placed.field-0.0 in
    ends_early _ _ _ c.from_residual.result (Refused refusal) c.from_residual.ensures.1
    (nothing_put refusal (g.K.Sink.state c.args.out.now)
    (expression_refused files (g.F.Files.state c.load_placed.new.files) (bound name c.args.count) name refl
    refusal c.in_err-placed.ensures.err))

-- memory runs out
pub returns-in_err-lines-clause-leaves : goal.returns-in_err-lines-clause-leaves
returns-in_err-lines-clause-leaves g c =
    ends_early _ _ _ c.from_residual-in_err-lines.result (Refused Memory) c.from_residual-in_err-lines.ensures.1
    (nothing_put Memory (g.K.Sink.state c.args.out.now) (λ status whole part last site. no_memory last))

-- its put fails
pub returns-in_err-put-clause-leaves : goal.returns-in_err-put-clause-leaves
returns-in_err-put-clause-leaves g c =
    let line = c.deref.result.now in
    ends_early _ _ _ c.from_residual-in_err-put.result Output c.from_residual-in_err-put.ensures.1
    (ended_cut (g.K.Sink.state c.args.out.now) (g.K.Sink.state c.put.new.self) [] line None
    (λ site. bounded c.bound-answer.result c.in_ok-placed.ensures.ok c.bound-answer.ensures
    (subst (λ l. LastLine 0 [] l 10 [] line) (c.deref.ensures.value ∙ c.in_ok-lines.ensures) lost))
    (subst (λ known. AppendsPart known line (g.K.Sink.state c.put.new.self).written)
    (append_nothing (g.K.Sink.state c.args.out.now).written) c.in_err-put.ensures.part)
    c.in_err-put.ensures.failed)

-- the line is put
pub returns-clause-leaves : goal.returns-clause-leaves
returns-clause-leaves g c =
    let line = c.deref.result.now in
    ended_whole (g.K.Sink.state c.args.out.now) (g.K.Sink.state c.put.new.self) line None
    (λ site. bounded c.bound-answer.result c.in_ok-placed.ensures.ok c.bound-answer.ensures
    (subst (λ l. LastLine 0 [] l 0 line []) (c.deref.ensures.value ∙ c.in_ok-lines.ensures) put))
    c.in_ok-put.ensures.whole
