use Rattle.ix_manage.proofs.Unhindered.{ends_whole}
use Rattle.ix_manage.proofs.laws.unhindered_runs_end_whole.Goals as goal

pub returns : goal.returns
returns g c = ends_whole g.S.Site.crashes
