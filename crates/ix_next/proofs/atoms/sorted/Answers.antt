use Rattle.std.proofs.Common.{sym, ap, ◌∙◌}
use Rattle.ix_words.specs.Canon.{put_once}
use Rattle.ix_values.specs.Order.{text_cmp}
use Rattle.ix_next.proofs.Sorted.{canon_taken}
use Rattle.ix_next.proofs.atoms.sorted.Goals as goal

pub loop-value-preserved : goal.loop-value-preserved
loop-value-preserved c =
    c.in_ok-put.ensures
    ∙ ap (put_once text_cmp c.value-item.result) c.loop-value.invariant
    ∙ sym (canon_taken c.args.values.now c.loop-value.value-index c.value-item.result c.loop-value-test.true c.value-item.is)
