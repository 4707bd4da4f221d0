use Rattle.ix_simplify.proofs.Sides.{law-same}
use Rattle.ix_simplify.proofs.laws.sides_mean_the_same.Goals as goal

pub returns : goal.returns
returns c = law-same
