use Rattle.ix_words.proofs.Ways.{cut_is, cut_among}
use Rattle.ix_words.proofs.cuts_all.Goals as goal

pub returns : goal.returns
returns g c = λ w p. (cut_is w p, cut_among w p.0 p.1)
