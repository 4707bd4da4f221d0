use Rattle.ix_manager.proofs.WithinLemmas as laws
use Rattle.ix_manager.proofs.laws.kept_images_can_be_started_from.Goals as goal

pub returns : goal.returns
returns c = laws.kept_images_are_startable
