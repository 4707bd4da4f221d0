use Rattle.std.proofs.Common.{sym, ap, ◌∙◌, cond, ◌++◌, ◌∷◌, []}
use Rattle.std.specs.List.{list_any}
use Rattle.ix_values.specs.Order.{text_eq}
use Rattle.ix_next.proofs.Sorted.{once_taken}
use Rattle.ix_next.proofs.values.distinct.Goals as goal

pub loop-value-preserved : goal.loop-value-preserved
loop-value-preserved c =
    c.in_ok-push_once.ensures
    ∙ ap (λ w. cond (list_any (text_eq c.value-item.result) w) w (w ++ c.value-item.result ∷ [])) c.loop-value.invariant
    ∙ sym (once_taken c.args.values.now c.loop-value.value-index c.value-item.result c.loop-value-test.true c.value-item.is)
