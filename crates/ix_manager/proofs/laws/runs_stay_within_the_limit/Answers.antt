use Rattle.ix_manager.proofs.WithinLemmas as laws
use Rattle.ix_manager.proofs.laws.runs_stay_within_the_limit.Goals as goal

pub returns : goal.returns
returns c = laws.runs_stay_within
