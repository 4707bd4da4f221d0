-- What comes on a connection.
use Rattle.std.specs.Prelude.{◌≡◌, ℕ, ◌<◌, ◌≤◌, ⊤}
use Rattle.ix_outside.specs.declared.event.Event.{Event}
use Rattle.ix_outside.specs.Event.{IsPiece}

-- a piece on connection 0
abbrev pub IsServed : ℕ → Event → Type 0
IsServed room event = (event.conn ≡ 0) × IsPiece room event.kind
