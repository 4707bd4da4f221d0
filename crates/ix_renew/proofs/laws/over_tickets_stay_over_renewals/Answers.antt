use Rattle.ix_renew.proofs.LaterRenewals.{over_tickets_stay_over}
use Rattle.ix_renew.proofs.laws.over_tickets_stay_over_renewals.Goals as goal

pub returns : goal.returns
returns c = over_tickets_stay_over
