use Rattle.ix_blocks.proofs.Cutting.{held_image}
use Rattle.ix_blocks.proofs.laws.held_files_are_images.Goals as goal

pub returns : goal.returns
returns c = held_image
