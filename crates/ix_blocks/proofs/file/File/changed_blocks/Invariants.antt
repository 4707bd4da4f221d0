use Rattle.std.proofs.Common.{◌≡◌, ◌≤◌, ◌++◌, length, map, drop}
use Rattle.ix_blocks.specs.FileBlocks.{changed_blocks}
use Rattle.ix_blocks.specs.inside.PlainBlocks.{plain_block}
use Rattle.ix_blocks.proofs.file.File.changed_blocks.Given as goal

-- what was made so far and what is left are all
abbrev pub invariant-loop-number : goal.invariant-loop-number
invariant-loop-number l = record {
  made : map plain_block l.blocks.items ++ changed_blocks (drop l.number-index l.self.changed.items) l.self.bytes.items ≡ changed_blocks l.self.changed.items l.self.bytes.items;
  few : length l.blocks.items ≤ l.number-index;
}
