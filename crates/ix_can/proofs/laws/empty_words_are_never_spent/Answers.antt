use Rattle.ix_can.proofs.SpentTell.{never_spent}
use Rattle.ix_can.proofs.laws.empty_words_are_never_spent.Goals as goal

pub returns : goal.returns
returns c = never_spent
