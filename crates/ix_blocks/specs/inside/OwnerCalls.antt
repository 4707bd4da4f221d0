-- What the calls of an owner over a store are, as a run of many owners.
use Rattle.std.specs.Prelude.{◌≡◌, ◌≢◌, ◌⊎◌, ℕ, List, [], ◌∷◌, ◌++◌, Option, None, Result, Ok, Err}
use Rattle.ix_blocks.specs.Register.{image}
use Rattle.ix_blocks.specs.declared.blocks.Blocks.{Blocks}
use Rattle.ix_blocks.specs.declared.claim.Claim.{Claim}
use Rattle.ix_blocks.specs.declared.keys.Fault.{Fault}
use Rattle.ix_blocks.specs.declared.keys.Fault.TheVariants.{NoAnswer, Ended, Damaged, NoRoom}
use Rattle.ix_blocks.specs.Owners.{outside, waits, ended, World, Event, syncs, world_after}
use Rattle.ix_blocks.specs.FileBlocks.{brings, HoldsFile}
use Rattle.ix_blocks.specs.FileLaws.{NobodySyncs}
use Rattle.ix_blocks.specs.Stores.{Store, WhateverComes}
use Rattle.ix_blocks.specs.Protocol.{HasKeysOf, IsLast, Owns}

-- what an owner has stays, in each world
abbrev pub StaysOwned : Blocks → Blocks → Type 0
StaysOwned old new = (who : ℕ) (synced : List ℕ) (world : World)
    → Owns old who synced world → Owns new who synced world

-- The run goes on, and nobody syncs meanwhile, to a world of this store, of which P holds. All but
-- this owner stand in it as they did.
pub record RunsOn (newest : ℕ) (before : List Event) (who : ℕ) (store : Store)
    (P : World → Type 0) : Type 0 where
  pub events : List Event
  pub quiet : NobodySyncs events
  pub leads : HasKeysOf (world_after newest (before ++ events)) store
  pub others : (other : ℕ) → other ≢ who
      → (world_after newest (before ++ events)).standing other
      ≡ (world_after newest before).standing other
  pub holds : P (world_after newest (before ++ events))

-- the run goes on so that P holds of it at a moment, and Q behind it
pub record RunsThrough (newest : ℕ) (before : List Event) (who : ℕ) (store : Store)
    (P Q : World → Type 0) : Type 0 where
  pub events : List Event
  pub quiet : NobodySyncs events
  pub holds : P (world_after newest (before ++ events))
  pub behind : RunsOn newest (before ++ events) who store Q

-- the run with a sync of this owner behind it, of all that its blocks have unsynced
abbrev pub with_sync : List Event → ℕ → Blocks → List Event
with_sync run who blocks =
    run ++ syncs who (brings blocks.file.changed.items blocks.file.bytes.items) ∷ []

-- the owner waits for an answer
abbrev pub Waits : ℕ → World → Type 0
Waits who world = (claim : Claim) × (world.standing who ≡ waits claim)

-- the owner sends nothing more
abbrev pub HasEnded : ℕ → World → Type 0
HasEnded who world = world.standing who ≡ ended

-- What a sync is in a run, by what it answers: after Ok the file in memory is the synced one, and
-- after NoAnswer the owner waits for ever. After NoRoom nothing was sent.
abbrev pub SyncGoes : {T : Type 0} → Result T Fault → ℕ → List Event → ℕ → Blocks → Blocks → Store
    → Type 0
SyncGoes (Ok done) newest run who old new store =
    RunsOn newest (with_sync run who old) who store (Owns new who new.file.bytes.items)
SyncGoes (Err NoAnswer) newest run who old new store =
    RunsOn newest (with_sync run who old) who store (Waits who)
SyncGoes (Err Ended) newest run who old new store =
    RunsOn newest (with_sync run who old) who store (HasEnded who)
SyncGoes (Err Damaged) newest run who old new store = ⊥
SyncGoes (Err (NoRoom why)) newest run who old new store = HasKeysOf (world_after newest run) store

-- after a fault of a sync no other one works, unless there was no room
abbrev pub LosesClaim : Fault → Option Claim → Option Claim → Type 0
LosesClaim NoAnswer old new = new ≡ None
LosesClaim Ended old new = new ≡ None
LosesClaim Damaged old new = new ≡ None
LosesClaim (NoRoom why) old new = new ≡ old

-- a call of the sync of these blocks, in each run that led to the store and in which they are owned
abbrev pub Syncs : {T : Type 0} → Result T Fault → Blocks → Blocks → Store → Store → Type 0
Syncs result old new before after = (newest : ℕ) (run : List Event) (who : ℕ) (synced : List ℕ)
    → HasKeysOf (world_after newest run) before → Owns old who synced (world_after newest run)
    → SyncGoes result newest run who old new after

-- While the owner attached last: after a sync, whatever its answer, and whatever then comes of all
-- that was ever sent, the file in the store is the one that was synced before or the one in memory.
abbrev pub LeavesOneOfTwo : Blocks → Store → Store → Type 0
LeavesOneOfTwo blocks before after = (newest : ℕ) (run : List Event) (who : ℕ) (synced : List ℕ)
    → HasKeysOf (world_after newest run) before → Owns blocks who synced (world_after newest run)
    → IsLast who (world_after newest run)
    → WhateverComes
    (λ register. (image register ≡ synced) ⊎ (image register ≡ blocks.file.bytes.items)) after

-- What a check is in a run, by what it answers: at a moment of the call the owner was the last that
-- attached, or it was not.
abbrev pub CheckGoes : {T : Type 0} → Result T Fault → ℕ → List Event → ℕ → Blocks → List ℕ → Store
    → Type 0
CheckGoes (Ok done) newest run who blocks synced store =
    RunsThrough newest run who store (IsLast who) (Owns blocks who synced)
CheckGoes (Err NoAnswer) newest run who blocks synced store =
    RunsOn newest run who store (Owns blocks who synced)
CheckGoes (Err Ended) newest run who blocks synced store =
    RunsThrough newest run who store (λ world. ¬ IsLast who world) (Owns blocks who synced)
CheckGoes (Err Damaged) newest run who blocks synced store = ⊥
CheckGoes (Err (NoRoom why)) newest run who blocks synced store = ⊥

abbrev pub Checks : {T : Type 0} → Result T Fault → Blocks → Store → Store → Type 0
Checks result blocks before after = (newest : ℕ) (run : List Event) (who : ℕ) (synced : List ℕ)
    → HasKeysOf (world_after newest run) before → Owns blocks who synced (world_after newest run)
    → CheckGoes result newest run who blocks synced after

-- An attach that took a file over: an owner that had sent nothing has it from now on, and it is the
-- file that the store had at the moment of the attach.
abbrev pub TakesFile : Blocks → Store → Store → Type 0
TakesFile blocks before after = (newest : ℕ) (run : List Event) (who : ℕ)
    → HasKeysOf (world_after newest run) before → (world_after newest run).standing who ≡ outside
    → RunsThrough newest run who after
    (λ world. IsLast who world × HoldsFile blocks.file.bytes.items world.register)
    (Owns blocks who blocks.file.bytes.items)

-- any other attach is in each run that of an owner who goes no further
abbrev pub TakesNothing : Fault → Store → Store → Type 0
TakesNothing fault before after = (newest : ℕ) (run : List Event) (who : ℕ)
    → HasKeysOf (world_after newest run) before → (world_after newest run).standing who ≡ outside
    → RunsOn newest run who after (λ world. fault ≡ Ended → HasEnded who world)
