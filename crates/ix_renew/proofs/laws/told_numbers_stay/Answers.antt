use Rattle.ix_renew.proofs.LaterRenewals.{told_numbers_stay}
use Rattle.ix_renew.proofs.laws.told_numbers_stay.Goals as goal

pub returns : goal.returns
returns c = told_numbers_stay
