use Rattle.ix_simplify.proofs.Uses.{becomes-once}
use Rattle.ix_simplify.proofs.laws.results_are_one.Goals as goal

pub returns : goal.returns
returns c = becomes-once
