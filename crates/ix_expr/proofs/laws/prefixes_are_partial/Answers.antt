use Rattle.ix_expr.proofs.LawsOfMeaning.{prefix-partial}
use Rattle.ix_expr.proofs.laws.prefixes_are_partial.Goals as goal

pub returns : goal.returns
returns c = prefix-partial
