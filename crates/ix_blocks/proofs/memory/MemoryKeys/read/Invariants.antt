use Rattle.std.proofs.Common.{◌≡◌, map, drop, []}
use Rattle.ix_blocks.specs.inside.PlainBlocks.{plain_request}
use Rattle.ix_blocks.specs.inside.MemoryStore.{blocks_after, picked}
use Rattle.ix_blocks.proofs.memory.MemoryKeys.read.Given as goal

-- what was applied so far, and what is left, are all
abbrev pub invariant-loop-which : goal.invariant-loop-which
invariant-loop-which l =
    blocks_after (λ n. l.bytes) (picked (map plain_request l.self.sent.items) (drop l.which-index l.self.applied.items)) l.number
    ≡ blocks_after (λ n. []) (picked (map plain_request l.self.sent.items) l.self.applied.items) l.number
