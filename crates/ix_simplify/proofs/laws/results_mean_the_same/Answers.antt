use Rattle.ix_simplify.proofs.Kept.{becomes-same}
use Rattle.ix_simplify.proofs.laws.results_mean_the_same.Goals as goal

pub returns : goal.returns
returns c = becomes-same
