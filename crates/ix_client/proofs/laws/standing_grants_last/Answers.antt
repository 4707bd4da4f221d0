use Rattle.ix_client.proofs.Lasting.{standing_grants_last}
use Rattle.ix_client.proofs.laws.standing_grants_last.Goals as goal

pub returns : goal.returns
returns c = standing_grants_last
