-- Which stream has which number.
use Rattle.std.specs.Prelude.{◌≡◌, ◌≢◌, ℕ, ℤ, List, Option, None, Some, Result, Ok, Err, get_or}
use Rattle.std.specs.Prelude.{set, IsSome}
use Rattle.ix_outside.specs.declared.event.EventKind.{EventKind}
use Rattle.ix_outside.specs.declared.event.EventKind.TheVariants.{Bytes, Closed, End}
use Rattle.ix_many.specs.inside.Hold.{HoldState}

-- the stream of each number, where it has one
abbrev pub Streams : Type 0
Streams = List (Option ℤ)

-- the streams of a wire, and its holder
pub record StreamsState : Type 0 where
  pub streams : Streams
  pub hold : HoldState

-- no number has a stream
abbrev pub IsFree : Streams → Type 0
IsFree streams = (place : ℕ) → get_or streams place None ≡ None

-- each stream keeps its number
abbrev pub KeepsStreams : Streams → Streams → Type 0
KeepsStreams old new = (place : ℕ) (stream : ℤ)
    → get_or old place None ≡ Some stream → get_or new place None ≡ Some stream

-- each stream but that of this number keeps its own
abbrev pub KeepsOthers : ℕ → Streams → Streams → Type 0
KeepsOthers ended old new = (place : ℕ) (stream : ℤ) → place ≢ ended
    → get_or old place None ≡ Some stream → get_or new place None ≡ Some stream

-- bytes came on a number that has a stream; or its stream ended and the number is free
abbrev pub ComesOnly : ℕ → EventKind → Streams → Streams → Type 0
ComesOnly place (Bytes count) old new = KeepsStreams old new × IsSome (get_or new place None)
ComesOnly place Closed old new = KeepsOthers place old new × (get_or new place None ≡ None)
ComesOnly place End old new = KeepsStreams old new

-- what came next
abbrev pub Comes : {E : Type 0} → Result (ℕ × EventKind) E → Streams → Streams → Type 0
Comes (Ok came) old new = ComesOnly came.0 came.1 old new
Comes (Err fault) old new = KeepsStreams old new

-- what came on this number, if anything did: only that of an end changes
abbrev pub ComesOn : ℕ → Option EventKind → Streams → Streams → Type 0
ComesOn place None old new = new ≡ old
ComesOn place (Some (Bytes count)) old new = (new ≡ old) × IsSome (get_or new place None)
ComesOn place (Some Closed) old new = new ≡ set old place None
ComesOn place (Some End) old new = ⊥

-- the same of the stream of one number
abbrev pub SlotComes : Option EventKind → Option ℤ → Option ℤ → Type 0
SlotComes None old new = new ≡ old
SlotComes (Some (Bytes count)) old new = (new ≡ old) × IsSome new
SlotComes (Some Closed) old new = new ≡ None
SlotComes (Some End) old new = ⊥

-- what came within a time, if anything did
abbrev pub ComesInTime : {E : Type 0} → ℕ → Result (Option EventKind) E → Streams → Streams → Type 0
ComesInTime place (Ok came) old new = ComesOn place came old new
ComesInTime place (Err fault) old new = new ≡ old
