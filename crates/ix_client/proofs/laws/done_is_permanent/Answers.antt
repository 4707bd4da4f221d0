use Rattle.ix_client.proofs.ToldLemmas.{done_is_permanent}
use Rattle.ix_client.proofs.laws.done_is_permanent.Goals as goal

pub returns : goal.returns
returns c = done_is_permanent
