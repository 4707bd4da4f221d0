use Rattle.ix_blocks.proofs.Syncing.{each_moment}
use Rattle.ix_blocks.proofs.laws.each_moment_has_one_of_two.Goals as goal

pub returns : goal.returns
returns c = each_moment
