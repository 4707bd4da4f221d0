use Rattle.ix_expr.proofs.LawsOfMeaning.{outside-same}
use Rattle.ix_expr.proofs.laws.fresh_values_are_outside.Goals as goal

pub returns : goal.returns
returns c = outside-same
