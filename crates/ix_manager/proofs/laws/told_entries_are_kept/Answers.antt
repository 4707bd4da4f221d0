use Rattle.ix_manager.proofs.ToldLemmas.{told_entries_are_kept}
use Rattle.ix_manager.proofs.laws.told_entries_are_kept.Goals as goal

pub returns : goal.returns
returns c = told_entries_are_kept
