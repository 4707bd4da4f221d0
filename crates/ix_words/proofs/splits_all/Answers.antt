use Rattle.ix_words.proofs.Laws.{splits_all}
use Rattle.ix_words.proofs.splits_all.Goals as goal

pub returns : goal.returns
returns g c = splits_all
