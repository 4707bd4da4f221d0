-- The piece that comes next, through a buffer of a length.
use Rattle.std.specs.Prelude.{◌≡◌, ℕ, List, [], ◌∷◌, length, Option, Some, None}
use Rattle.ix_outside.specs.Contents.{GivenEvent}
use Rattle.ix_script.specs.Events.{HasEvents}
use Rattle.ix_script.specs.Pieces.{fitting, left_after}

-- the next of these events, as it fits a buffer of this length
abbrev pub next_piece : ℕ → List GivenEvent → Option GivenEvent
next_piece room [] = None
next_piece room (given ∷ later) = Some (fitting room given)

-- what is left of events behind these pieces
abbrev pub left_behind : List GivenEvent → List GivenEvent → List GivenEvent
left_behind [] events = events
left_behind (piece ∷ pieces) events = left_behind pieces (left_after (length piece.bytes) events)

-- the piece comes next in a script, for a buffer of this length, behind those given
abbrev pub IsNextPiece : ℕ → List ℕ → List GivenEvent → GivenEvent → Type 0
IsNextPiece room bytes given piece =
    (events : List GivenEvent) → HasEvents bytes events
    → next_piece room (left_behind given events) ≡ Some piece
