use Rattle.ix_client.proofs.ToldLemmas.{grants_stand}
use Rattle.ix_client.proofs.laws.grants_stand.Goals as goal

pub returns : goal.returns
returns c = grants_stand
