use Rattle.ix_renew.proofs.RenewedStarts.{renewed_journals_go_on}
use Rattle.ix_renew.proofs.laws.renewed_journals_go_on.Goals as goal

pub returns : goal.returns
returns c = renewed_journals_go_on
