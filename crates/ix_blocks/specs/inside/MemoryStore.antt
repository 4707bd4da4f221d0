-- A store in memory, by what was sent and which of it was applied.
use Rattle.std.specs.Prelude.{ℕ, List, [], ◌∷◌, None, get_or, map}
use Rattle.ix_blocks.specs.Register.{Transaction, put_blocks, delete_from}
use Rattle.ix_blocks.specs.Owners.{empty_store}
use Rattle.ix_blocks.specs.Stores.{Store}
use Rattle.ix_blocks.specs.inside.PlainBlocks.{plain_request}
use Rattle.ix_blocks.specs.declared.memory.MemoryKeys.{MemoryKeys}

-- what stands where nothing was sent
abbrev pub asks_nothing : Transaction
asks_nothing = record {
  guard = 0;
  head = record { owner = 0; sequence = 0; length = 0 };
  puts = [];
  gone_from = None;
}

-- the blocks after a transaction was applied
abbrev pub blocks_behind : (ℕ → List ℕ) → Transaction → ℕ → List ℕ
blocks_behind blocks transaction =
    delete_from (put_blocks blocks transaction.puts) transaction.gone_from

-- the blocks after these were applied, in order
abbrev pub blocks_after : (ℕ → List ℕ) → List Transaction → ℕ → List ℕ
blocks_after blocks [] = blocks
blocks_after blocks (transaction ∷ rest) = blocks_after (blocks_behind blocks transaction) rest

-- those of these places
abbrev pub picked : List Transaction → List ℕ → List Transaction
picked sent places = map (λ which. get_or sent which asks_nothing) places

-- what a store in memory tells
abbrev pub store_of : MemoryKeys → Store
store_of keys = record {
  register = record {
    head = keys.head;
    revision = keys.revision;
    blocks = blocks_after (λ number. [])
        (picked (map plain_request keys.sent.items) keys.applied.items);
    newest = keys.newest;
  };
  sent = map plain_request keys.sent.items;
}

-- no head and no block, and nothing was sent
abbrev pub fresh_store : Store
fresh_store = record { register = (empty_store 0).register; sent = [] }
