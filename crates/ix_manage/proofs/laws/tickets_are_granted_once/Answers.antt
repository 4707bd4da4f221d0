use Rattle.ix_manage.proofs.TwoRuns.{tickets_are_granted_once}
use Rattle.ix_manage.proofs.laws.tickets_are_granted_once.Goals as goal

pub returns : goal.returns
returns g c = tickets_are_granted_once g.S.Site.crashes
