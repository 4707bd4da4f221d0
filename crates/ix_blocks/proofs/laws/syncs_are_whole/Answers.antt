use Rattle.ix_blocks.proofs.Cutting.{syncs_make, syncs_whole}
use Rattle.ix_blocks.proofs.laws.syncs_are_whole.Goals as goal

pub returns-clause-made : goal.returns-clause-made
returns-clause-made c = syncs_make

pub returns-clause-whole : goal.returns-clause-whole
returns-clause-whole c = syncs_whole
