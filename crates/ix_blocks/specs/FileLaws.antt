-- What is claimed of a sync of a file, as statements.
use Rattle.std.specs.Prelude.{◌≡◌, ◌⊎◌, ℕ, ◌+◌, List, [], ◌∷◌, Some, ⊤}
use Rattle.ix_blocks.specs.Register.{Register, apply, image}
use Rattle.ix_blocks.specs.declared.claim.Claim.{Claim}
use Rattle.ix_blocks.specs.Owners.{sync_of, owns, Unsynced, World, Event, attaches, syncs, comes}
use Rattle.ix_blocks.specs.Owners.{hears, elsewhere, after_events, world_after}
use Rattle.ix_blocks.specs.Laws.{last_owner, HasWritten}
use Rattle.ix_blocks.specs.FileBlocks.{DiffersIn, brings, HoldsFile}

-- the image of a store that has a file is that file
abbrev pub HeldFilesAreImages : Type 0
HeldFilesAreImages = (file : List ℕ) (register : Register) → HoldsFile file register
    → image register ≡ file

-- a sync whose guard fits makes of the file that was synced the one in memory
abbrev pub SyncsMakeTheFile : Type 0
SyncsMakeTheFile = (claim : Claim) (changed synced file : List ℕ) (register : Register)
    → HoldsFile synced register → DiffersIn changed synced file
    → claim.revision ≡ register.revision
    → HoldsFile file (apply (sync_of claim (brings changed file)) register)

-- and whenever it comes, the file is the one that was synced or the one in memory
abbrev pub SyncsAreWhole : Type 0
SyncsAreWhole = (claim : Claim) (changed synced file : List ℕ) (register : Register)
    → HoldsFile synced register → DiffersIn changed synced file
    → (image (apply (sync_of claim (brings changed file)) register) ≡ synced)
    ⊎ (image (apply (sync_of claim (brings changed file)) register) ≡ file)

-- nobody sends a sync
abbrev pub NobodySyncs : List Event → Type 0
NobodySyncs [] = ⊤
NobodySyncs (attaches who ∷ events) = NobodySyncs events
NobodySyncs (syncs who unsynced ∷ events) = ⊥
NobodySyncs (comes which ∷ events) = NobodySyncs events
NobodySyncs (hears which ∷ events) = NobodySyncs events
NobodySyncs (elsewhere ∷ events) = NobodySyncs events

-- the store has the file as it was synced, until the owner's sync of this number changes it
pub record HasSynced (synced : List ℕ) (who count : ℕ) (world : World) : Type 0 where
  pub holds : HoldsFile synced world.register
  pub not_yet : ¬ HasWritten who count world.changes

-- the world after the owner sends a sync of this file, and then these events
abbrev pub world_with_sync : World → ℕ → Unsynced → List Event → World
world_with_sync world who unsynced events = after_events (syncs who unsynced ∷ events) world

-- While the owner that attached last syncs, and until anybody sends another sync: at every moment,
-- whatever comes of all that was ever sent, and whoever attaches, the store has the file as it was
-- synced, and from the moment on at which the sync changes it, the one in memory.
abbrev pub EachMomentHasOneOfTwo : Type 0
EachMomentHasOneOfTwo = (newest : ℕ) (before events : List Event) (who : ℕ) (claim : Claim)
    (changed synced file : List ℕ)
    → (world_after newest before).standing who ≡ owns claim
    → last_owner (world_after newest before).changes ≡ Some who
    → HoldsFile synced (world_after newest before).register → DiffersIn changed synced file
    → NobodySyncs events
    → HasSynced synced who (claim.sequence + 1)
    (world_with_sync (world_after newest before) who (brings changed file) events)
    ⊎ HoldsFile file
    (world_with_sync (world_after newest before) who (brings changed file) events).register
