-- Blocks and requests without where they lie in memory.
use Rattle.std.specs.Prelude.{ℕ, List, map}
use Rattle.ix_blocks.specs.declared.file.Block.{Block}
use Rattle.ix_blocks.specs.declared.request.Request.{Request}
use Rattle.ix_blocks.specs.Register.{Transaction}

-- a block by its number and its bytes
abbrev pub plain_block : Block → ℕ × List ℕ
plain_block block = (block.number, block.bytes.items)

-- the transaction that a request asks for
abbrev pub plain_request : Request → Transaction
plain_request request = record {
  guard = request.guard;
  head = request.head;
  puts = map plain_block request.puts.items;
  gone_from = request.gone_from;
}
