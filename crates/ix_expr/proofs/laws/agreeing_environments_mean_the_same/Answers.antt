use Rattle.ix_expr.proofs.LawsOfMeaning.{agree-same}
use Rattle.ix_expr.proofs.laws.agreeing_environments_mean_the_same.Goals as goal

pub returns : goal.returns
returns c = agree-same
