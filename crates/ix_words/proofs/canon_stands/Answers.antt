use Rattle.ix_words.proofs.Canon.{canon-ascending, canon-members}
use Rattle.ix_words.proofs.canon_stands.Goals as goal

pub returns : goal.returns
returns g c = λ compare order w. (canon-ascending order w, canon-members order w)
