use Rattle.std.proofs.Common.{[], None, refl, sym, subst, ◌∙◌}
use Rattle.ix_outside.specs.Sink.{AppendsPart}
use Rattle.ix_cli.specs.Words.{stuck}
use Rattle.ix_manage.specs.Desk.{ReadsValues}
use Rattle.ix_manage.specs.Ends.{no_memory}
use Rattle.ix_manage.specs.Puts.{put, lost}
use Rattle.ix_manage.specs.declared.refusal.Refusal.TheVariants.{Memory}
use Rattle.ix_manage.specs.declared.early_end.EarlyEnd.TheVariants.{Output, Refused}
use Rattle.ix_manage.specs.inside.Linting.{placed_meaning}
use Rattle.ix_manage.proofs.Desking.{moves_refused, stuck_told, values_refused, values_refused_later}
use Rattle.ix_manage.proofs.Ending.{expression_refused}
use Rattle.ix_manage.proofs.Stops.{ended_cut, ended_whole, ends_early, nothing_put}
use Rattle.ix_manage.proofs.Tracing.{append_nothing}
use Rattle.ix_manage.proofs.stuck.stuck.Goals as goal

-- no expression is read
pub returns-in_err-placed-clause-leaves : goal.returns-in_err-placed-clause-leaves
returns-in_err-placed-clause-leaves g c =
    let files = g.F.Files.state c.args.files.now in
    let names = c.args.names in
    let refusal = c.in_err-placed.field-0.0 in
    ends_early _ _ _ c.from_residual.result (Refused refusal) c.from_residual.ensures.1
    (nothing_put refusal (g.K.Sink.state c.args.out.now)
    (expression_refused files (g.F.Files.state c.load_placed.new.files)
    (stuck names.expression.now names.values.now names.limit names.states) names.expression.now refl
    refusal c.in_err-placed.ensures.err))

-- no given values are read
pub returns-in_err-given-clause-leaves : goal.returns-in_err-given-clause-leaves
returns-in_err-given-clause-leaves g c =
    let files = g.F.Files.state c.args.files.now in
    let mid = g.F.Files.state c.load_placed.new.files in
    let later = g.F.Files.state c.load_values.new.files in
    let refusal = c.in_err-given.field-0.0 in
    ends_early _ _ _ c.from_residual-in_err-given.result (Refused refusal) c.from_residual-in_err-given.ensures.1
    (nothing_put refusal (g.K.Sink.state c.args.out.now)
    (values_refused files later c.args.names (placed_meaning c.in_ok-placed.placed) c.in_ok-placed.ensures.ok refusal
    (values_refused_later files mid later c.args.names.values.now refusal c.in_ok-placed.ensures.files
    c.in_err-given.ensures.err)))

-- there are no moves
pub returns-in_err-moves-clause-leaves : goal.returns-in_err-moves-clause-leaves
returns-in_err-moves-clause-leaves g c =
    let files = g.F.Files.state c.args.files.now in
    let later = g.F.Files.state c.load_values.new.files in
    let refusal = c.in_err-moves.field-0.0 in
    ends_early _ _ _ c.from_residual-in_err-moves.result (Refused refusal) c.from_residual-in_err-moves.ensures.1
    (nothing_put refusal (g.K.Sink.state c.args.out.now)
    (moves_refused files later c.args.names (placed_meaning c.in_ok-placed.placed) c.in_ok-placed.ensures.ok
    c.as_slice.result.now
    (subst (ReadsValues files.contents c.args.names.values.now) (sym c.as_slice.ensures.value)
    (subst (λ known. ReadsValues known c.args.names.values.now c.in_ok-given.given.items)
    c.in_ok-placed.ensures.files.contents c.in_ok-given.ensures.ok))
    refusal c.in_err-moves.ensures.refused))

-- memory runs out
pub returns-in_err-lines-clause-leaves : goal.returns-in_err-lines-clause-leaves
returns-in_err-lines-clause-leaves g c =
    ends_early _ _ _ c.from_residual-in_err-lines.result (Refused Memory) c.from_residual-in_err-lines.ensures.1
    (nothing_put Memory (g.K.Sink.state c.args.out.now) (λ status whole part last site. no_memory last))

-- its put fails
pub returns-in_err-put-clause-leaves : goal.returns-in_err-put-clause-leaves
returns-in_err-put-clause-leaves g c =
    let line = c.deref.result.now in
    let sink = g.K.Sink.state c.args.out.now in
    let files = g.F.Files.state c.args.files.now in
    let later = g.F.Files.state c.load_values.new.files in
    ends_early _ _ _ c.from_residual-in_err-put.result Output c.from_residual-in_err-put.ensures.1
    (ended_cut sink (g.K.Sink.state c.put.new.self) [] line None
    (stuck_told files later c.args.names (placed_meaning c.in_ok-placed.placed) c.in_ok-placed.ensures.ok
    c.as_slice.result.now
    (subst (ReadsValues files.contents c.args.names.values.now) (sym c.as_slice.ensures.value)
    (subst (λ known. ReadsValues known c.args.names.values.now c.in_ok-given.given.items)
    c.in_ok-placed.ensures.files.contents c.in_ok-given.ensures.ok))
    c.as_slice-2.result.now line c.in_ok-lines.lines.items (c.as_slice-2.ensures.value ∙ c.in_ok-moves.ensures.moves)
    c.in_ok-lines.ensures
    c.deref.ensures.value 10 [] line lost)
    (subst (λ known. AppendsPart known line (g.K.Sink.state c.put.new.self).written)
    (append_nothing sink.written) c.in_err-put.ensures.part)
    c.in_err-put.ensures.failed)

-- the lines are put
pub returns-clause-leaves : goal.returns-clause-leaves
returns-clause-leaves g c =
    let line = c.deref.result.now in
    let files = g.F.Files.state c.args.files.now in
    let later = g.F.Files.state c.load_values.new.files in
    ended_whole (g.K.Sink.state c.args.out.now) (g.K.Sink.state c.put.new.self) line None
    (stuck_told files later c.args.names (placed_meaning c.in_ok-placed.placed) c.in_ok-placed.ensures.ok
    c.as_slice.result.now
    (subst (ReadsValues files.contents c.args.names.values.now) (sym c.as_slice.ensures.value)
    (subst (λ known. ReadsValues known c.args.names.values.now c.in_ok-given.given.items)
    c.in_ok-placed.ensures.files.contents c.in_ok-given.ensures.ok))
    c.as_slice-2.result.now line c.in_ok-lines.lines.items (c.as_slice-2.ensures.value ∙ c.in_ok-moves.ensures.moves)
    c.in_ok-lines.ensures
    c.deref.ensures.value 0 line [] put)
    c.in_ok-put.ensures.whole
