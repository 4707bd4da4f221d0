use Rattle.ix_blocks.proofs.Syncs.{owned-stays}
use Rattle.ix_blocks.proofs.laws.owned_files_stay.Goals as goal

pub returns : goal.returns
returns c = owned-stays
