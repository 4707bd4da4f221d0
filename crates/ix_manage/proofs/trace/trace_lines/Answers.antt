use Rattle.std.proofs.Common.{[], ◌∷◌, ◌++◌, refl, sym, subst, ◌∙◌, eqb-true, None}
use Rattle.ix_words.proofs.Each.{Each-head, Each-tail}
use Rattle.ix_words.specs.Each.{Each}
use Rattle.ix_values.specs.Faults.{IsActionText}
use Rattle.ix_outside.specs.Sink.{AppendsPart}
use Rattle.ix_outside.proofs.Counting.{Rose-earlier}
use Rattle.ix_manage.specs.Puts.{put, lost}
use Rattle.ix_manage.specs.Trace.{TraceAnswers, done}
use Rattle.ix_manage.specs.declared.early_end.EarlyEnd.TheVariants.{Output}
use Rattle.ix_manage.proofs.Answering.{answers_join, answers_same, verdict_same}
use Rattle.ix_manage.proofs.Devices.{still, then}
use Rattle.ix_manage.proofs.Stops.{ended_cut, ended_whole, ends_early}
use Rattle.ix_manage.proofs.Tracing.{append_nothing, append_on, front_start, front_step, held_on, trace_ends, trace_stops}
use Rattle.ix_manage.proofs.trace.trace_lines.Goals as goal

pub loop-rest-init : goal.loop-rest-init
loop-rest-init g c =
    let engine = c.args.engine.now in (
      c.requires.lines,
      still _,
      refl,
      refl,
      (
        [],
        front_start c.args.actions.now,
        (
          [],
          subst (λ text. TraceAnswers engine.form engine.limit [] [] text engine.history) (sym c.new-held.ensures) (subst (TraceAnswers engine.form engine.limit [] [] []) (sym c.requires.empty) done),
          append_nothing _,
        ),
      ),
    )

pub of_text-action-requires : goal.of_text-action-requires
of_text-action-requires g c = Each-head (subst (Each IsActionText) c.first_line-first.ensures.lines c.loop-rest.invariant.0)

-- an action wasn't answered
pub returns-in_err-answer-clause-leaves : goal.returns-in_err-answer-clause-leaves
returns-in_err-answer-clause-leaves g c =
    let engine = c.args.engine.now in
    let so_far = c.loop-rest.invariant.4 in
    let held = c.loop-rest.held.items in
    ends_early _ _ _ c.from_residual.result c.in_err-answer.field-0.0 c.from_residual.ensures.1
    (trace_stops engine.form engine.limit c.args.actions.now c.loop-rest.rest.now so_far.0
    c.loop-rest.engine.history (so_far.2.0 ++ held) so_far.2.0 held
    (g.K.Sink.state c.args.out.now) (g.K.Sink.state c.loop-rest.out) (g.K.Sink.state c.answer.new.out)
    refl so_far.1 c.loop-rest.invariant.0 so_far.2.1 so_far.2.2 c.loop-rest.invariant.1.faults
    c.in_err-answer.field-0.0 c.in_err-answer.ensures.stop)

pub loop-rest-preserved : goal.loop-rest-preserved
loop-rest-preserved g c =
    let engine = c.args.engine.now in
    let so_far = c.loop-rest.invariant.4 in
    let more = c.in_ok-answer.ensures.answer in (
      Each-tail (subst (Each IsActionText) c.first_line-first.ensures.lines c.loop-rest.invariant.0),
      then _ _ _ c.loop-rest.invariant.1 c.in_ok-answer.ensures.puts,
      c.in_ok-answer.ensures.form ∙ c.loop-rest.invariant.2,
      c.in_ok-answer.ensures.limit ∙ c.loop-rest.invariant.3,
      (
        so_far.0 ++ c.of_text-action.result ∷ [],
        front_step c.args.actions.now c.loop-rest.rest.now c.first_line-first.result.rest.now c.first_line-first.result.line.now so_far.0 c.of_text-action.result
            c.first_line-first.ensures.lines c.of_text-action.ensures.valid c.of_text-action.ensures.same so_far.1,
        (
          so_far.2.0 ++ more.2.0,
          subst (λ text. TraceAnswers engine.form engine.limit [] (so_far.0 ++ c.of_text-action.result ∷ []) text c.answer.new.engine.history)
              (held_on so_far.2.0 c.loop-rest.held.items more.0 more.2.0 c.answer.new.held.items more.2.1)
              (answers_join so_far.2.1
              (answers_same c.loop-rest.invariant.2 c.loop-rest.invariant.3 more.1)),
          append_on _ _ _ so_far.2.0 more.2.0 so_far.2.2 more.2.2,
        ),
      ),
    )

-- the answers that were held at the end weren't put
pub returns-in_err-put_held-clause-leaves : goal.returns-in_err-put_held-clause-leaves
returns-in_err-put_held-clause-leaves g c =
    let engine = c.args.engine.now in
    let so_far = c.loop-rest.invariant.4 in
    let held = c.loop-rest.held.items in
    ends_early _ _ _ c.from_residual-in_err-put_held.result Output c.from_residual-in_err-put_held.ensures.1
    (trace_stops engine.form engine.limit c.args.actions.now c.loop-rest.rest.now so_far.0
    c.loop-rest.engine.history (so_far.2.0 ++ held) so_far.2.0 held
    (g.K.Sink.state c.args.out.now) (g.K.Sink.state c.loop-rest.out) (g.K.Sink.state c.put_held.new.out)
    refl so_far.1 c.loop-rest.invariant.0 so_far.2.1 so_far.2.2 c.loop-rest.invariant.1.faults
    Output c.in_err-put_held.ensures.lost)

pub returns-clause-leaves : goal.returns-clause-leaves
returns-clause-leaves g c =
    let engine = c.args.engine.now in
    let so_far = c.loop-rest.invariant.4 in
    let last = c.last_line.result.now in
    let text = so_far.2.0 ++ c.loop-rest.held.items in
    let whole = text ++ last in
    ended_whole (g.K.Sink.state c.args.out.now) (g.K.Sink.state c.put.new.self) whole None
    (trace_ends engine.form engine.limit c.args.actions.now c.loop-rest.rest.now so_far.0
    c.loop-rest.engine.history text last
    (eqb-true _ _ (sym c.loop-rest-test.ensures)) so_far.1 so_far.2.1
    (verdict_same c.loop-rest.invariant.2 c.last_line.ensures) 0 whole [] put)
    (append_on _ _ _ text last (append_on _ _ _ so_far.2.0 c.loop-rest.held.items so_far.2.2 c.in_ok-put_held.ensures.whole) c.in_ok-put.ensures.whole)

pub returns-in_err-put-clause-leaves : goal.returns-in_err-put-clause-leaves
returns-in_err-put-clause-leaves g c =
    let engine = c.args.engine.now in
    let so_far = c.loop-rest.invariant.4 in
    let last = c.last_line.result.now in
    let text = so_far.2.0 ++ c.loop-rest.held.items in
    ends_early _ _ _ c.from_residual-in_err-put.result Output c.from_residual-in_err-put.ensures.1
    (ended_cut (g.K.Sink.state c.args.out.now) (g.K.Sink.state c.put.new.self) text last None
    (trace_ends engine.form engine.limit c.args.actions.now c.loop-rest.rest.now so_far.0
    c.loop-rest.engine.history text last
    (eqb-true _ _ (sym c.loop-rest-test.ensures)) so_far.1 so_far.2.1
    (verdict_same c.loop-rest.invariant.2 c.last_line.ensures) 10 text last lost)
    (subst (λ known. AppendsPart known last (g.K.Sink.state c.put.new.self).written)
    (append_on _ _ _ so_far.2.0 c.loop-rest.held.items so_far.2.2 c.in_ok-put_held.ensures.whole) c.in_err-put.ensures.part)
    (Rose-earlier _ _ _ (then _ _ _ c.loop-rest.invariant.1 c.in_ok-put_held.ensures.puts).faults c.in_err-put.ensures.failed))
