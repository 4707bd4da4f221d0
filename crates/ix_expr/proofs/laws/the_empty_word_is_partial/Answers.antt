use Rattle.ix_expr.proofs.LawsOfMeaning.{empty-partial}
use Rattle.ix_expr.proofs.laws.the_empty_word_is_partial.Goals as goal

pub returns : goal.returns
returns c = empty-partial
