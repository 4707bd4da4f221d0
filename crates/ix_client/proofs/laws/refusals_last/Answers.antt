use Rattle.ix_client.proofs.RefusalLemmas.{refusals_last}
use Rattle.ix_client.proofs.laws.refusals_last.Goals as goal

pub returns : goal.returns
returns c = refusals_last
