use Rattle.ix_words.proofs.Laws.{parts_cover}
use Rattle.ix_words.proofs.parts_cover.Goals as goal

pub returns : goal.returns
returns g c = parts_cover
