-- Trees in memory are equal exactly where their trees are the same.
use Rattle.std.proofs.Common.{◌≡◌}
use Rattle.ix_tree.specs.contracts.order.KnotPartialEq.TheImpl.{ghosts as tree_ghosts}
use Rattle.ix_tree.proofs.Equal.{same_plain}
use Rattle.ix_tree.specs.Plain.{Plain}
use Rattle.ix_can.specs.Nodes.{same_tree}
use Rattle.ix_words.proofs.Deciding.{one_test}
use Rattle.ix_can.proofs.Nodes.{same_is, same_from}

pub same_trees : (x y : Plain) → tree_ghosts.eq x y ≡ same_tree x y
same_trees x y = one_test (tree_ghosts.eq x y) (same_tree x y) (
  λ e. same_from x y ((same_plain x y).0 e),
  λ e. (same_plain x y).1 (same_is x y e),
)
