use Rattle.ix_renew.proofs.ConfirmedRenewals.{confirmed_tickets_stay_confirmed}
use Rattle.ix_renew.proofs.laws.confirmed_tickets_stay_confirmed.Goals as goal

pub returns : goal.returns
returns c = confirmed_tickets_stay_confirmed
