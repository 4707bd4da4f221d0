use Rattle.ix_expr.proofs.Unseen.{unseen-outside}
use Rattle.ix_expr.proofs.laws.unseen_values_are_outside.Goals as goal

pub returns : goal.returns
returns c = unseen-outside
