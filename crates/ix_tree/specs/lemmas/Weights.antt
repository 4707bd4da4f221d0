-- Equal trees or parts have the same Size.
use Rattle.std.specs.Prelude.{◌≡◌}
use Rattle.std.proofs.Common.{ap}
use Rattle.std.specs.declared.cmp.Ordering.TheVariants.{Equal}
use Rattle.ix_tree.specs.Plain.{Plain}
use Rattle.ix_tree.specs.Size.{size_of}
use Rattle.ix_tree.specs.Order.{tree_cmp}
use Rattle.ix_tree.specs.lemmas.TreeOrder.{tree_cmp-same}

pub equal_trees_weigh_alike : (x y : Plain) → tree_cmp x y ≡ Equal → size_of x ≡ size_of y
equal_trees_weigh_alike x y e = ap size_of (tree_cmp-same x y e)
