use Rattle.ix_words.proofs.Ways.{cuts-end}
use Rattle.ix_words.proofs.cuts_grow.Goals as goal

pub returns : goal.returns
returns g c = cuts-end
