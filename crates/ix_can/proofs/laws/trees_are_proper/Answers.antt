use Rattle.ix_can.proofs.Proper.{proper}
use Rattle.ix_can.proofs.laws.trees_are_proper.Goals as goal

pub returns : goal.returns
returns c = proper
