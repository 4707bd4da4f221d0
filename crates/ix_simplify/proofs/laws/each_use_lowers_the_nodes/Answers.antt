use Rattle.ix_simplify.proofs.Kept.{law-lowers}
use Rattle.ix_simplify.proofs.laws.each_use_lowers_the_nodes.Goals as goal

pub returns : goal.returns
returns c = law-lowers
