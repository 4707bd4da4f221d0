use Rattle.ix_words.proofs.Ways.{splits-end}
use Rattle.ix_words.proofs.splits_grow.Goals as goal

pub returns : goal.returns
returns g c = splits-end
