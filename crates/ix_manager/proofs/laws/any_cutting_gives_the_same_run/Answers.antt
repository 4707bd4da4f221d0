use Rattle.ix_manager.proofs.CuttingLemmas as laws
use Rattle.ix_manager.proofs.laws.any_cutting_gives_the_same_run.Goals as goal

pub returns : goal.returns
returns c = laws.any_cutting_gives_the_same_run
