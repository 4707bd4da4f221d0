use Rattle.ix_manage.proofs.TwoRuns.{over_tickets_stay_out}
use Rattle.ix_manage.proofs.laws.over_tickets_stay_out.Goals as goal

pub returns : goal.returns
returns g c = over_tickets_stay_out c.texts_tell_tickets_apart.ensures g.S.Site.crashes
