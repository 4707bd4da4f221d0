use Rattle.ix_expr.proofs.LawsOfMeaning.{complete-partial}
use Rattle.ix_expr.proofs.laws.complete_words_are_partial.Goals as goal

pub returns : goal.returns
returns c = complete-partial
