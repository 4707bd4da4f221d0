use Rattle.ix_words.proofs.Words.{Split-closed}
use Rattle.ix_words.proofs.splits_closed.Goals as goal

pub returns : goal.returns
returns g c = λ q r. Split-closed
