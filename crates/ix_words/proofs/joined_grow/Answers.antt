use Rattle.ix_words.proofs.Laws.{joined_grow}
use Rattle.ix_words.proofs.joined_grow.Goals as goal

pub returns : goal.returns
returns g c = joined_grow
