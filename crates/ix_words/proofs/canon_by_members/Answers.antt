use Rattle.ix_words.proofs.Canon.{canon-same, same_from_canon}
use Rattle.ix_words.proofs.canon_by_members.Goals as goal

pub returns : goal.returns
returns g c = λ compare order u v. (canon-same order u v, same_from_canon order u v)
