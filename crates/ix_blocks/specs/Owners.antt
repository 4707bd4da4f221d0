-- Owners of one file, what they send, and when it comes to the store. An owner is one attach and
-- the syncs after it; who attaches again is another owner.
use Rattle.std.specs.Prelude.{ℕ, ◌+◌, ◌==◌, ◌&&◌, Bool, true, false, if◌then◌else◌, List, [], ◌∷◌}
use Rattle.std.specs.Prelude.{Option, None, Some, slice_get}
use Rattle.ix_blocks.specs.Register.{Register, Transaction, seen_of, fits, changed}
use Rattle.ix_blocks.specs.declared.claim.Seen.{Seen}
use Rattle.ix_blocks.specs.declared.claim.Claim.{Claim}
use Rattle.ix_blocks.specs.declared.claim.Commit.{Commit}
use Rattle.ix_blocks.specs.declared.claim.Commit.TheVariants.{Applied, Refused}

-- a transaction, and which owner sent it
pub record Sent : Type 0 where
  pub owner : ℕ
  pub transaction : Transaction

-- of an owner's transactions its attach has the number 0, and its syncs those from 1 on
abbrev pub number : Sent → ℕ
number sent = sent.transaction.head.sequence

-- what the store answers to a transaction
pub record Answer : Type 0 where
  pub to : Sent
  pub says : Commit

-- a transaction that changed the register, and the revision that it made
pub record Change : Type 0 where
  pub sent : Sent
  pub revision : ℕ

-- an owner has sent nothing yet; waits for its attach's answer; waits for that of its last sync;
-- was told that the last that it sent was applied; or sends nothing more
pub data OwnerState : Type 0 where
  outside : OwnerState
  attaching : OwnerState
  waits : Claim → OwnerState
  owns : Claim → OwnerState
  ended : OwnerState

-- the register; each transaction that was ever sent, each answer that was ever given, and each
-- change, the newest first; and how each owner stands
pub record World : Type 0 where
  pub register : Register
  pub sent : List Sent
  pub answers : List Answer
  pub changes : List Change
  pub standing : ℕ → OwnerState

-- what a sync brings: the file's length, the blocks to put, and from where on to delete
pub record Unsynced : Type 0 where
  pub length : ℕ
  pub puts : List (ℕ × List ℕ)
  pub gone_from : Option ℕ

-- What may happen next: an owner looks at the head and sends its attach; an owner sends a sync, and
-- waits no more for the one before; one of all transactions that were ever sent comes to the store;
-- one of all answers that were ever given comes to the owner that it was given to; or the store is
-- changed in other keys. A loss or a crash is what never happens.
pub data Event : Type 0 where
  attaches : ℕ → Event
  syncs : ℕ → Unsynced → Event
  comes : ℕ → Event
  hears : ℕ → Event
  elsewhere : Event

-- an attach puts the head that it saw, with no owner and no number
abbrev pub attach_of : Seen → Transaction
attach_of seen = record {
  guard = seen.revision;
  head = record { owner = 0; sequence = 0; length = seen.head.length };
  puts = [];
  gone_from = None;
}

-- a sync has the next number, and its guard is the last revision that the owner was told it made
abbrev pub sync_of : Claim → Unsynced → Transaction
sync_of claim pending = record {
  guard = claim.revision;
  head = record { owner = claim.owner; sequence = claim.sequence + 1; length = pending.length };
  puts = pending.puts;
  gone_from = pending.gone_from;
}

-- an owner stands so from now on
abbrev pub stands : World → ℕ → OwnerState → World
stands world who standing = record world {
  standing = λ other. if other == who then standing else world.standing other;
}

-- a transaction is sent
abbrev pub sends : World → ℕ → Transaction → World
sends world who transaction = record world {
  sent = record { owner = who; transaction = transaction } ∷ world.sent;
}

-- an owner that has sent nothing attaches
abbrev pub attach : World → ℕ → OwnerState → World
attach world who outside =
    stands (sends world who (attach_of (seen_of world.register))) who attaching
attach world who attaching = world
attach world who (waits claim) = world
attach world who (owns claim) = world
attach world who ended = world

-- an owner whose attach was applied syncs
abbrev pub sync_next : World → ℕ → Claim → Unsynced → World
sync_next world who claim pending = stands (sends world who (sync_of claim pending)) who
    (waits (record claim { sequence = claim.sequence + 1 }))

abbrev pub sync : World → ℕ → Unsynced → OwnerState → World
sync world who pending outside = world
sync world who pending attaching = world
sync world who pending (waits claim) = sync_next world who claim pending
sync world who pending (owns claim) = sync_next world who claim pending
sync world who pending ended = world

-- a transaction comes to the store: where its guard fits, it changes the register
abbrev pub come : World → Sent → Bool → World
come world sent true = record world {
  register = changed sent.transaction world.register;
  answers = record { to = sent; says = Applied (world.register.newest + 1) } ∷ world.answers;
  changes = record { sent = sent; revision = world.register.newest + 1 } ∷ world.changes;
}
come world sent false = record world {
  answers = record { to = sent; says = Refused (seen_of world.register) }
      ∷ world.answers;
}

abbrev pub come_one : World → Option Sent → World
come_one world None = world
come_one world (Some sent) = come world sent (fits sent.transaction world.register)

-- How an owner stands after the answer to its last transaction. Where that is refused, but the head
-- is the one that it puts, a copy of it was applied before; any other head is another's.
abbrev pub learn : Claim → Commit → OwnerState
learn claim (Applied revision) = owns (record claim { revision = revision })
learn claim (Refused seen) =
    if (seen.head.owner == claim.owner) && (seen.head.sequence == claim.sequence)
    then owns (record claim { revision = seen.revision }) else ended

-- how an owner stands after an answer to its transaction of this number; an answer that it doesn't
-- wait for makes no difference
abbrev pub hear : OwnerState → ℕ → Commit → OwnerState
hear outside number says = outside
hear attaching number (Applied revision) =
    owns (record { owner = revision; revision = revision; sequence = 0 })
hear attaching number (Refused seen) = ended
hear (waits claim) number says =
    if number == claim.sequence then learn claim says else waits claim
hear (owns claim) number says = owns claim
hear ended number says = ended

abbrev pub hear_one : World → Option Answer → World
hear_one world None = world
hear_one world (Some answer) = stands world answer.to.owner
    (hear (world.standing answer.to.owner) (number answer.to) answer.says)

-- the transactions on other keys raise the store's revision
abbrev pub raised_elsewhere : Register → Register
raised_elsewhere register = record register { newest = register.newest + 1 }

abbrev pub happens : World → Event → World
happens world (attaches who) = attach world who (world.standing who)
happens world (syncs who pending) = sync world who pending (world.standing who)
happens world (comes which) = come_one world (slice_get world.sent which)
happens world (hears which) = hear_one world (slice_get world.answers which)
happens world elsewhere = record world { register = raised_elsewhere world.register }

-- a whole run
abbrev pub after_events : List Event → World → World
after_events [] world = world
after_events (event ∷ events) world = after_events events (happens world event)

-- no head and no block, in a store of this revision; nobody has sent anything
abbrev pub empty_store : ℕ → World
empty_store newest = record {
  register = record {
    head = record { owner = 0; sequence = 0; length = 0 };
    revision = 0;
    blocks = λ number. [];
    newest = newest;
  };
  sent = [];
  answers = [];
  changes = [];
  standing = λ who. outside;
}

-- the world after a run from a store of this revision
abbrev pub world_after : ℕ → List Event → World
world_after newest events = after_events events (empty_store newest)
