use Rattle.ix_manager.proofs.ToldLemmas.{told_tickets_stay_over}
use Rattle.ix_manager.proofs.laws.told_tickets_stay_over.Goals as goal

pub returns : goal.returns
returns c = told_tickets_stay_over c.texts_tell_tickets_apart.ensures
