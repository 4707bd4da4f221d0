use Rattle.ix_manager.proofs.RunLemmas as laws
use Rattle.ix_manager.proofs.laws.calls_make_a_run.Goals as goal

pub returns : goal.returns
returns c = laws.calls_make_a_run
