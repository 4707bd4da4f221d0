use Rattle.ix_words.proofs.Canon.{canon-end}
use Rattle.ix_words.proofs.canon_grow.Goals as goal

pub returns : goal.returns
returns g c = λ compare order. canon-end order
