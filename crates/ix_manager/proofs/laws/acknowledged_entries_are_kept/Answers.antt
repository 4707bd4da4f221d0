use Rattle.ix_manager.proofs.ToldLemmas.{acknowledged_entries_are_kept}
use Rattle.ix_manager.proofs.laws.acknowledged_entries_are_kept.Goals as goal

pub returns : goal.returns
returns c = acknowledged_entries_are_kept
