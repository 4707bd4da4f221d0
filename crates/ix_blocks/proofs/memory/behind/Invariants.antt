use Rattle.std.proofs.Common.{◌≡◌, map, drop}
use Rattle.ix_blocks.specs.Register.{put_blocks}
use Rattle.ix_blocks.specs.inside.PlainBlocks.{plain_block}
use Rattle.ix_blocks.proofs.memory.behind.Given as goal

-- what was put so far, and what is left, are all
abbrev pub invariant-loop-block : goal.invariant-loop-block
invariant-loop-block l =
    put_blocks (λ n. l.bytes) (map plain_block (drop l.block-index l.request.puts.items)) l.number
    ≡ put_blocks (λ n. l.before) (map plain_block l.request.puts.items) l.number
