-- Events that a site may give.
use Rattle.std.specs.Prelude.{◌≡◌, ℕ, ◌<◌, ◌≤◌, ⊤}
use Rattle.ix_outside.specs.declared.event.Event.{Event}
use Rattle.ix_outside.specs.declared.event.EventKind.{EventKind}
use Rattle.ix_outside.specs.declared.event.EventKind.TheVariants.{Bytes, Closed, End}

-- at least one byte that fits the room, or the connection's end
abbrev pub IsPiece : ℕ → EventKind → Type 0
IsPiece room (Bytes count) = (0 < count) × (count ≤ room)
IsPiece room Closed = ⊤
IsPiece room End = ⊥

-- bytes are at least one and fit the room; the end has connection 0
abbrev pub KindFits : ℕ → ℕ → EventKind → Type 0
KindFits room conn (Bytes n) = (0 < n) × (n ≤ room)
KindFits room conn Closed = ⊤
KindFits room conn End = conn ≡ 0

-- an event of a connection from 0 to 63 whose bytes fit a buffer of this length
abbrev pub FitsBuffer : ℕ → Event → Type 0
FitsBuffer room event = (event.conn < 64) × KindFits room event.conn event.kind
