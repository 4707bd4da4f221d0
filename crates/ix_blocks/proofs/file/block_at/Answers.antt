use Rattle.std.proofs.Common.{◌∙◌}
use Rattle.ix_blocks.proofs.Cutting.{block_cut}
use Rattle.ix_blocks.proofs.file.block_at.Goals as goal

pub returns-clause-bytes : goal.returns-clause-bytes
returns-clause-bytes c =
    c.in_ok-from_slice.ensures.items ∙ block_cut c.args.bytes.now c.args.number c.min-count.result c.min-count.ensures
