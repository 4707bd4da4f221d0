use Rattle.ix_client.proofs.ToldLemmas.{never_is_permanent}
use Rattle.ix_client.proofs.laws.never_is_permanent.Goals as goal

pub returns : goal.returns
returns c = never_is_permanent
