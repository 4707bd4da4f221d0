-- What comes on a connection is an event that the trait allows.
use Rattle.std.specs.Prelude.{ℕ, ◌<◌}
use Rattle.ix_outside.specs.Event.{IsPiece, FitsBuffer}
use Rattle.ix_outside.specs.declared.event.Event.{Event}

-- a piece that fits a buffer is an event that fits it, on each of the 64 connections
abbrev pub PiecesFit : Type 0
PiecesFit =
    (room : ℕ) (event : Event) → event.conn < 64 → IsPiece room event.kind → FitsBuffer room event
