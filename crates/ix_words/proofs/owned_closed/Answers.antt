use Rattle.ix_words.proofs.Words.{Owned-closed}
use Rattle.ix_words.proofs.owned_closed.Goals as goal

pub returns : goal.returns
returns g c = λ same q. Owned-closed
