use Rattle.std.proofs.Common.{rules}
use Rattle.std.proofs.lemmas.List.Sorted.{IsPartitionPoint-from_clause}
use Rattle.std.specs.Ordering.{is_gt}
use Rattle.ix_tree.specs.Order.{tree_cmp}
use Rattle.ix_step.proofs.BagsPut.{place_is}
use Rattle.ix_step.proofs.Rising.{below_first}
use Rattle.ix_step.proofs.bags.place_of.Goals as goal

pub returns : goal.returns
returns c =
    let parted = below_first c.args.tree.now c.args.others.now c.requires in
    let point = IsPartitionPoint-from_clause (λ y. is_gt (tree_cmp c.args.tree.now y)) _ _ c.partition_point.ensures.partitioned parted (λ a r q k. search rules) in
    record {
      within = c.partition_point.ensures.bound;
      place = place_is c.args.tree.now c.args.others.now c.partition_point.result c.partition_point.ensures.bound point;
    }
