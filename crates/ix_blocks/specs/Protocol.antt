-- An owner's blocks over a store, in a run of many owners.
use Rattle.std.specs.Prelude.{◌≡◌, ℕ, List, Some}
use Rattle.ix_words.specs.Each.{Member}
use Rattle.ix_blocks.specs.Register.{Transaction, image}
use Rattle.ix_blocks.specs.declared.blocks.Blocks.{Blocks}
use Rattle.ix_blocks.specs.declared.claim.Claim.{Claim}
use Rattle.ix_blocks.specs.Owners.{Sent, owns, World, Event, world_after}
use Rattle.ix_blocks.specs.Laws.{last_owner}
use Rattle.ix_blocks.specs.FileBlocks.{DiffersIn, HoldsFile}
use Rattle.ix_blocks.specs.Stores.{Store, WhateverComes}

-- a store has the keys of this world, and all that was sent to it was sent there
pub record HasKeysOf (world : World) (store : Store) : Type 0 where
  pub register : world.register ≡ store.register
  pub sent : (transaction : Transaction) → Member transaction store.sent
      → (sent : Sent) × Member sent world.sent × (sent.transaction ≡ transaction)

-- of all owners this one attached last
abbrev pub IsLast : ℕ → World → Type 0
IsLast who world = last_owner world.changes ≡ Some who

-- These blocks are this owner's. It waits for no answer; the file in memory differs from the synced
-- one in the changed blocks alone; and the store has the synced one, unless another owner has
-- attached since.
pub record Owns (blocks : Blocks) (who : ℕ) (synced : List ℕ) (world : World) : Type 0 where
  pub claim : Claim
  pub knows : blocks.claim ≡ Some claim
  pub stands : world.standing who ≡ owns claim
  pub differs : DiffersIn blocks.file.changed.items synced blocks.file.bytes.items
  pub holds : IsLast who world → HoldsFile synced world.register

-- the file of the owner that attached last stays as it was synced, whatever comes of all that was
-- ever sent
abbrev pub OwnedFilesStay : Type 0
OwnedFilesStay = (newest : ℕ) (run : List Event) (who : ℕ) (synced : List ℕ) (blocks : Blocks)
    (store : Store) → HasKeysOf (world_after newest run) store
    → Owns blocks who synced (world_after newest run) → IsLast who (world_after newest run)
    → WhateverComes (λ register. image register ≡ synced) store
