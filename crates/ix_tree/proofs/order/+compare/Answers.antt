use Rattle.std.proofs.Common.{◌∙◌, sym}
use Rattle.ix_tree.specs.PlainOf.{plain_pair, plain_bag, plain_map}
use Rattle.ix_tree.proofs.Ends.{ends, part_ends}
use Rattle.ix_tree.proofs.order.+compare.Goals as goal

pub compare_knots-returns : goal.compare_knots-returns
compare_knots-returns t c =
    c.cmp.ensures ∙ ends _ _ c.loop-i.i c.min-i-end.result c.min-i-end.ensures c.loop-i-test.false c.loop-i.auto.i-end ∙ sym c.loop-i.invariant.0

pub compare_pairs-returns : goal.compare_pairs-returns
compare_pairs-returns t c =
    c.cmp.ensures ∙ part_ends plain_pair _ _ c.loop-i.i c.min-i-end.result c.min-i-end.ensures c.loop-i-test.false c.loop-i.auto.i-end ∙ sym c.loop-i.invariant.0

pub compare_bags-returns : goal.compare_bags-returns
compare_bags-returns t c =
    c.cmp.ensures ∙ part_ends plain_bag _ _ c.loop-i.i c.min-i-end.result c.min-i-end.ensures c.loop-i-test.false c.loop-i.auto.i-end ∙ sym c.loop-i.invariant.0

pub compare_maps-returns : goal.compare_maps-returns
compare_maps-returns t c =
    c.cmp.ensures ∙ part_ends plain_map _ _ c.loop-i.i c.min-i-end.result c.min-i-end.ensures c.loop-i-test.false c.loop-i.auto.i-end ∙ sym c.loop-i.invariant.0
