use Rattle.ix_manager.proofs.ToldLemmas.{acknowledged_outcomes_are_kept}
use Rattle.ix_manager.proofs.laws.acknowledged_outcomes_are_kept.Goals as goal

pub returns : goal.returns
returns c = acknowledged_outcomes_are_kept c.texts_tell_tickets_apart.ensures
