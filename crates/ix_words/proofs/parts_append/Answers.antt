use Rattle.ix_words.proofs.Parts.{part-append}
use Rattle.ix_words.proofs.parts_append.Goals as goal

pub returns : goal.returns
returns g c = part-append
