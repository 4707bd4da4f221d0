use Rattle.std.proofs.Common.{◌∙◌, sym, ap, subst, arith, length, true≢false}
use Rattle.ix_values.specs.Texts.{IsAction}
use Rattle.ix_values.specs.inside.Causes.{action_code}
use Rattle.ix_values.proofs.ReadingSteps.{told, no_word_at, value_read, next_within, closed_front, comma_front, other_fault}
use Rattle.ix_values.proofs.Stuck.{fault_no_value}
use Rattle.ix_values.proofs.TextsOfActions.{IsAction-push}
use Rattle.ix_values.proofs.reading.read_values.Goals as goal

pub returns-in-None : goal.returns-in-None
returns-in-None c =
    let kept = c.loop-value.invariant in
    let action = c.loop-value.action in
    told c.args.text.now 2 c.loop-value.at c.fault.result c.fault.ensures
    (fault_no_value c.args.text.now action.name action.values c.loop-value.at kept.within kept.before kept.valid.name kept.valid.values kept.few
    (no_word_at c.args.text.now c.loop-value.at c.in-None.ensures))

pub end-requires-clause-within : goal.end-requires-clause-within
end-requires-clause-within c =
    next_within c.args.text.now _ 41 c.byte_at-next.result c.byte_at-next.ensures (c.closes.ensures.0 c.if-closes.true)

pub end-requires-clause-before : goal.end-requires-clause-before
end-requires-clause-before c =
    let kept = c.loop-value.invariant in
    let action = c.loop-value.action in
    let value = c.in-Some.value in
    let read = value_read c.args.text.now c.loop-value.at action.name action.values value c.bytes.result.now kept.within kept.before c.in-Some.ensures.0 c.bytes.ensures.value in
    closed_front c.args.text.now _ action.name action.values value c.byte_at-next.result c.push.new.self read c.byte_at-next.ensures (c.closes.ensures.0 c.if-closes.true) c.push.ensures

pub end-requires-clause-valid : goal.end-requires-clause-valid
end-requires-clause-valid c =
    let kept = c.loop-value.invariant in
    let action = c.loop-value.action in
    subst IsAction (sym c.push.ensures) (IsAction-push action.name action.values c.in-Some.value kept.valid.name kept.valid.values kept.few c.bytes.ensures.valid)

pub returns-then-not-goes_on : goal.returns-then-not-goes_on
returns-then-not-goes_on c =
    let kept = c.loop-value.invariant in
    let action = c.loop-value.action in
    let value = c.in-Some.value in
    let read = value_read c.args.text.now c.loop-value.at action.name action.values value c.bytes.result.now kept.within kept.before c.in-Some.ensures.0 c.bytes.ensures.value in
    told c.args.text.now _ _ c.fault-then-not-goes_on.result c.fault-then-not-goes_on.ensures
    (other_fault c.args.text.now _ action.name action.values value c.byte_at-next.result (length c.values.result.now) (action_code c.cause_after_value.result) read kept.valid.name kept.valid.values kept.few c.bytes.ensures.valid
    c.byte_at-next.ensures (ap length c.values.ensures.value ∙ ap (λ a. length a.values) c.push.ensures)
    (λ e. true≢false (sym (c.closes.ensures.1 e) ∙ c.if-closes.false))
    (λ e. true≢false (sym (c.goes_on.ensures.1 e) ∙ c.if-not-goes_on.true))
    c.cause_after_value.ensures)

pub loop-value-preserved : goal.loop-value-preserved
loop-value-preserved c =
    let kept = c.loop-value.invariant in
    let action = c.loop-value.action in
    let value = c.in-Some.value in
    let read = value_read c.args.text.now c.loop-value.at action.name action.values value c.bytes.result.now kept.within kept.before c.in-Some.ensures.0 c.bytes.ensures.value in
    let more = c.goes_on.ensures.0 c.if-not-goes_on.false in
    record {
      within = next_within c.args.text.now _ 44 c.byte_at-next.result c.byte_at-next.ensures more.0;
      before = comma_front c.args.text.now _ action.name action.values value c.byte_at-next.result c.push.new.self read c.byte_at-next.ensures more.0 c.push.ensures;
      valid = subst IsAction (sym c.push.ensures) (IsAction-push action.name action.values value kept.valid.name kept.valid.values kept.few c.bytes.ensures.valid);
      few = omega (arith, ap length c.values.ensures.value, more.1);
    }
