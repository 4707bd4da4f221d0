use Rattle.ix_words.proofs.Words.{Joined-front}
use Rattle.ix_words.proofs.joined_fronts.Goals as goal

pub returns : goal.returns
returns g c = λ q r u v closed. Joined-front closed u v
