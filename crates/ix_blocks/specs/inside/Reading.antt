-- What was read of a file so far.
use Rattle.std.specs.Prelude.{ℕ, ◌<◌, List}
use Rattle.ix_blocks.specs.FileBlocks.{block_of}
use Rattle.ix_blocks.specs.Stores.{Store}
use Rattle.ix_blocks.specs.inside.StoreCalls.{TimePasses, ReadsBlock}

-- time passed, and each of the first blocks of these bytes was read at a moment at which the head
-- was the one put last at this revision
pub record ReadsFront (at count : ℕ) (bytes : List ℕ) (old new : Store) : Type 0 where
  pub time : TimePasses old new
  pub blocks : (number : ℕ) → number < count
      → ReadsBlock number at (block_of bytes number) old new
