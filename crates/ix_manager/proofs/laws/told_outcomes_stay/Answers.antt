use Rattle.ix_manager.proofs.ToldLemmas.{told_outcomes_stay}
use Rattle.ix_manager.proofs.laws.told_outcomes_stay.Goals as goal

pub returns : goal.returns
returns c = told_outcomes_stay c.texts_tell_tickets_apart.ensures
