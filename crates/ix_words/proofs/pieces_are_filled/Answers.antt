use Rattle.ix_words.proofs.Owners.{Repeated-filled}
use Rattle.ix_words.proofs.pieces_are_filled.Goals as goal

pub returns : goal.returns
returns g c = λ q. Repeated-filled
