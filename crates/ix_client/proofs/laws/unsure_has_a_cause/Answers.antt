use Rattle.ix_client.proofs.ToldLemmas.{unsure_has_a_cause}
use Rattle.ix_client.proofs.laws.unsure_has_a_cause.Goals as goal

pub returns : goal.returns
returns c = unsure_has_a_cause
