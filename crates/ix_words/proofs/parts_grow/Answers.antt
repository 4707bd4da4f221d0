use Rattle.ix_words.proofs.Laws.{parts_grow}
use Rattle.ix_words.proofs.parts_grow.Goals as goal

pub returns : goal.returns
returns g c = parts_grow
