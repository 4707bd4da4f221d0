use Rattle.ix_words.proofs.Words.{Numbered-closed}
use Rattle.ix_words.proofs.numbered_closed.Goals as goal

pub returns : goal.returns
returns g c = λ q. Numbered-closed
