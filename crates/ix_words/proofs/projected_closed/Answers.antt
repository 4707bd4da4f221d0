use Rattle.ix_words.proofs.Words.{Projected-closed}
use Rattle.ix_words.proofs.projected_closed.Goals as goal

pub returns : goal.returns
returns g c = λ test q. Projected-closed
