use Rattle.ix_simplify.proofs.Uses.{becomes-stays}
use Rattle.ix_simplify.proofs.laws.results_stay.Goals as goal

pub returns : goal.returns
returns c = becomes-stays
