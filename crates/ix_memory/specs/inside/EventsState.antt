-- What a site keeps of its events.
use Rattle.std.specs.Prelude.{ℕ, ◌+◌, ◌≤◌, ◌<◌, ◌≡◌, List, [], ◌∷◌, drop, map, ⊤}
use Rattle.ix_outside.specs.Contents.{GivenEvent, piece_of}
use Rattle.ix_outside.specs.declared.event.EventKind.{EventKind}
use Rattle.ix_outside.specs.declared.event.EventKind.TheVariants.{Bytes, Closed, End}
use Rattle.ix_memory.specs.declared.events.Piece.{Piece}

-- the events to come and those that were given, the moment of the last event of all, and how many
-- more events given have their memory already
pub record EventsState : Type 0 where
  pub coming : List GivenEvent
  pub given : List GivenEvent
  pub last : ℕ
  pub spare : ℕ

-- the event of a piece, with its bytes
abbrev pub event_of : List ℕ → Piece → GivenEvent
event_of bytes piece =
    record { event = piece.event; bytes = piece_of piece.event.kind (drop piece.start bytes) }

-- the events of pieces, from the bytes of all of them
abbrev pub events_from : List ℕ → List Piece → List GivenEvent
events_from bytes pieces = map (event_of bytes) pieces

-- an event's bytes are at least one and within so many bytes; an end has connection 0
abbrev pub KindIsKept : ℕ → ℕ → ℕ → EventKind → Type 0
KindIsKept count start conn (Bytes n) = (0 < n) × (start + n ≤ count)
KindIsKept count start conn Closed = ⊤
KindIsKept count start conn End = conn ≡ 0

-- a piece has a connection from 0 to 63, and its bytes are within so many
abbrev pub IsKept : ℕ → Piece → Type 0
IsKept count piece =
    (piece.event.conn < 64) × KindIsKept count piece.start piece.event.conn piece.event.kind

-- each piece is kept
abbrev pub AreEventsKept : ℕ → List Piece → Type 0
AreEventsKept count [] = ⊤
AreEventsKept count (piece ∷ pieces) = IsKept count piece × AreEventsKept count pieces
