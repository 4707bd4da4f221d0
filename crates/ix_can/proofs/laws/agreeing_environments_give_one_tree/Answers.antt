use Rattle.ix_can.proofs.Agreeing.{same_tree_of}
use Rattle.ix_can.proofs.laws.agreeing_environments_give_one_tree.Goals as goal

pub returns : goal.returns
returns c = same_tree_of
