use Rattle.ix_words.proofs.Words.{Shared-closed}
use Rattle.ix_words.proofs.shared_closed.Goals as goal

pub returns : goal.returns
returns g c = λ n q. Shared-closed
