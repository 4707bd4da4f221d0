use Rattle.ix_simplify.proofs.Uses.{becomes-settled}
use Rattle.ix_simplify.proofs.laws.results_have_no_left_side.Goals as goal

pub returns : goal.returns
returns c = becomes-settled
