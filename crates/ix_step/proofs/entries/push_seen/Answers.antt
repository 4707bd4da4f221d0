use Rattle.std.proofs.Common.{◌∙◌, ap, length, get_or, arith}
use Rattle.ix_expr.specs.inside.FormOf.{form_of}
use Rattle.ix_step.proofs.SeenValues.{one_added}
use Rattle.ix_step.proofs.entries.push_seen.Goals as goal

pub loop-value-preserved : goal.loop-value-preserved
loop-value-preserved c =
    one_added (form_of c.args.body.expr.now) c.args.body.parameter.now c.args.action.now c.args.action.now.values c.args.values.now.items c.loop-value.values.items c.push_if_seen.new.values.items c.loop-value.value-index c.value-item.result
    (omega (arith, c.loop-value-test.true, ap length c.values-value-items.ensures.value))
    (c.value-item.is ∙ ap (λ l. get_or l c.loop-value.value-index c.value-item.result) c.values-value-items.ensures.value)
    c.loop-value.invariant c.in_ok-push_if_seen.ensures
