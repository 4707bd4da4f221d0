-- What comes on a connection and what goes out on it.
use Rattle.std.specs.Prelude.{ℕ, ◌<◌, ◌≤◌, List, ⊤, Option}
use Rattle.std.specs.Io.KnownBytes.{Appends}
use Rattle.ix_outside.specs.Sink.{IsFront}
use Rattle.ix_outside.specs.Event.{IsPiece}
use Rattle.ix_outside.specs.declared.event.EventKind.{EventKind}

-- a piece on a connection from 0 to 63
abbrev pub IsOneOf64 : ℕ → ℕ × EventKind → Type 0
IsOneOf64 room came = (came.0 < 64) × IsPiece room came.1

-- a front of the bytes came behind those known
abbrev pub AppendsFront : Option (List ℕ) → List ℕ → Option (List ℕ) → Type 0
AppendsFront old bytes new = (front : List ℕ) × IsFront front bytes × Appends old new front
