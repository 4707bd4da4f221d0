use Rattle.ix_words.proofs.Owners.{Numbered-below}
use Rattle.ix_words.proofs.numbers_below_the_length.Goals as goal

pub returns : goal.returns
returns g c = λ q. Numbered-below
