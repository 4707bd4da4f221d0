use Rattle.ix_renew.proofs.LaterRenewals.{counts_go_on}
use Rattle.ix_renew.proofs.laws.counts_go_on.Goals as goal

pub returns : goal.returns
returns c = counts_go_on
