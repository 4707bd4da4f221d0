use Rattle.ix_tree.specs.lemmas.TreeOrder.{tree_order}
use Rattle.ix_tree.proofs.laws.trees_are_ordered.Goals as goal

pub returns : goal.returns
returns c = tree_order
