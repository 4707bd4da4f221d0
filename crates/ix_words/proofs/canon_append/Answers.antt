use Rattle.ix_words.proofs.Canon.{canon-append}
use Rattle.ix_words.proofs.canon_append.Goals as goal

pub returns : goal.returns
returns g c = λ compare order. canon-append order
