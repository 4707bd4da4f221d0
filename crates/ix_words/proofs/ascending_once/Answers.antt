use Rattle.ix_words.proofs.Canon.{ascending_once}
use Rattle.ix_words.proofs.ascending_once.Goals as goal

pub returns : goal.returns
returns g c = λ compare order u v. ascending_once order
