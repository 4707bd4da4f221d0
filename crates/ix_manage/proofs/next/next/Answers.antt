use Rattle.std.proofs.Common.{[], None, refl, subst, map, string_bytes, sym}
use Rattle.ix_next.specs.Lists.{AreGiven}
use Rattle.ix_outside.specs.Sink.{AppendsPart}
use Rattle.ix_cli.specs.Words.{next}
use Rattle.ix_manage.specs.Ends.{no_memory}
use Rattle.ix_manage.specs.Puts.{put, lost}
use Rattle.ix_manage.specs.declared.refusal.Refusal.TheVariants.{Memory}
use Rattle.ix_manage.specs.declared.early_end.EarlyEnd.TheVariants.{Output, Refused}
use Rattle.ix_manage.proofs.Desking.{next_refused, next_told}
use Rattle.ix_manage.proofs.Stops.{ended_cut, ended_whole, ends_early, nothing_put}
use Rattle.ix_manage.proofs.Tracing.{append_nothing}
use Rattle.ix_manage.proofs.next.next.Goals as goal

-- there is no history
pub returns-in_err-past-clause-leaves : goal.returns-in_err-past-clause-leaves
returns-in_err-past-clause-leaves g c =
    let names = c.args.names in
    let refusal = c.in_err-past.field-0.0 in
    ends_early _ _ _ c.from_residual.result (Refused refusal) c.from_residual.ensures.1
    (nothing_put refusal (g.K.Sink.state c.args.out.now)
    (c.in_err-past.ensures.ends
    (next names.expression.now names.actions.now (map string_bytes c.args.values.now) names.limit)
    refl refl refl tt))

-- memory runs out
pub returns-in_err-given-clause-leaves : goal.returns-in_err-given-clause-leaves
returns-in_err-given-clause-leaves g c =
    ends_early _ _ _ c.from_residual-in_err-given.result (Refused Memory) c.from_residual-in_err-given.ensures.1
    (nothing_put Memory (g.K.Sink.state c.args.out.now) (λ status whole part last site. no_memory last))

-- there is no menu
pub returns-in_err-lines-clause-leaves : goal.returns-in_err-lines-clause-leaves
returns-in_err-lines-clause-leaves g c =
    let files = g.F.Files.state c.args.files.now in
    let refusal = c.in_err-lines.field-0.0 in
    ends_early _ _ _ c.from_residual-in_err-lines.result (Refused refusal) c.from_residual-in_err-lines.ensures.1
    (nothing_put refusal (g.K.Sink.state c.args.out.now)
    (next_refused files (g.F.Files.state c.load_past.new.files) c.args.names (map string_bytes c.args.values.now)
    c.in_ok-past.past c.as_slice.result.now c.in_ok-past.ensures.past
    (subst (AreGiven (map string_bytes c.args.values.now)) (sym c.as_slice.ensures.value) c.in_ok-given.ensures)
    refusal c.in_err-lines.ensures.refused))

-- its put fails
pub returns-in_err-put-clause-leaves : goal.returns-in_err-put-clause-leaves
returns-in_err-put-clause-leaves g c =
    let line = c.deref.result.now in
    let sink = g.K.Sink.state c.args.out.now in
    let files = g.F.Files.state c.args.files.now in
    ends_early _ _ _ c.from_residual-in_err-put.result Output c.from_residual-in_err-put.ensures.1
    (ended_cut sink (g.K.Sink.state c.put.new.self) [] line None
    (next_told files (g.F.Files.state c.load_past.new.files) c.args.names (map string_bytes c.args.values.now)
    c.in_ok-past.past c.as_slice.result.now c.in_ok-past.ensures.past
    (subst (AreGiven (map string_bytes c.args.values.now)) (sym c.as_slice.ensures.value) c.in_ok-given.ensures)
    line c.in_ok-lines.lines.items c.in_ok-lines.ensures.offer c.deref.ensures.value 10 [] line lost)
    (subst (λ known. AppendsPart known line (g.K.Sink.state c.put.new.self).written)
    (append_nothing sink.written) c.in_err-put.ensures.part)
    c.in_err-put.ensures.failed)

-- the lines are put
pub returns-clause-leaves : goal.returns-clause-leaves
returns-clause-leaves g c =
    let line = c.deref.result.now in
    let files = g.F.Files.state c.args.files.now in
    ended_whole (g.K.Sink.state c.args.out.now) (g.K.Sink.state c.put.new.self) line None
    (next_told files (g.F.Files.state c.load_past.new.files) c.args.names (map string_bytes c.args.values.now)
    c.in_ok-past.past c.as_slice.result.now c.in_ok-past.ensures.past
    (subst (AreGiven (map string_bytes c.args.values.now)) (sym c.as_slice.ensures.value) c.in_ok-given.ensures)
    line c.in_ok-lines.lines.items c.in_ok-lines.ensures.offer c.deref.ensures.value 0 line [] put)
    c.in_ok-put.ensures.whole
