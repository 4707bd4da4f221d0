use Rattle.ix_manager.proofs.LaterLemmas.{told_entries_stay}
use Rattle.ix_manager.proofs.laws.told_entries_stay.Goals as goal

pub returns : goal.returns
returns c = told_entries_stay
