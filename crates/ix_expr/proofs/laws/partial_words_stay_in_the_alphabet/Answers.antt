use Rattle.ix_expr.proofs.LawsOfMeaning.{partial-alphabet}
use Rattle.ix_expr.proofs.laws.partial_words_stay_in_the_alphabet.Goals as goal

pub returns : goal.returns
returns c = partial-alphabet
