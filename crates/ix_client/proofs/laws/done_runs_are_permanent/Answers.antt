use Rattle.ix_client.proofs.RunLemmas.{done_runs_are_permanent}
use Rattle.ix_client.proofs.laws.done_runs_are_permanent.Goals as goal

pub returns : goal.returns
returns c = done_runs_are_permanent
