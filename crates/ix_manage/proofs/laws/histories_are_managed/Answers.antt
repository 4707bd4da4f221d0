use Rattle.ix_manage.proofs.Managed.{histories_are_managed}
use Rattle.ix_manage.proofs.laws.histories_are_managed.Goals as goal

pub returns : goal.returns
returns c = histories_are_managed
