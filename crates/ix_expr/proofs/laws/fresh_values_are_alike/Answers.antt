use Rattle.ix_expr.proofs.LawsOfMeaning.{fresh-same}
use Rattle.ix_expr.proofs.laws.fresh_values_are_alike.Goals as goal

pub returns : goal.returns
returns c = fresh-same
