use Rattle.ix_words.proofs.Canon.{canon-flat_map}
use Rattle.ix_words.proofs.canon_each.Goals as goal

pub returns : goal.returns
returns g c = λ compare order o p. canon-flat_map o p
