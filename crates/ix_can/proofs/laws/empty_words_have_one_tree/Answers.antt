use Rattle.ix_can.proofs.Agreeing.{empty_tree}
use Rattle.ix_can.proofs.laws.empty_words_have_one_tree.Goals as goal

pub returns : goal.returns
returns c = empty_tree
