-- The piece that comes next, through a buffer of a length.
use Rattle.std.specs.Prelude.{ℕ, ◌+◌, ◌-◌, nat_lt, if◌then◌else◌, List, [], ◌∷◌, ◌++◌}
use Rattle.ix_outside.specs.declared.event.EventKind.{EventKind}
use Rattle.ix_outside.specs.declared.event.EventKind.TheVariants.{Bytes, Closed, End}
use Rattle.ix_memory.specs.inside.NextEvent.{front_kind}
use Rattle.ix_memory.specs.declared.events.Piece.{Piece}

-- a piece as it comes through a buffer
abbrev pub front_piece : ℕ → Piece → Piece
front_piece room piece =
    record piece { event = record piece.event { kind = front_kind room piece.event.kind } }

-- the piece of the bytes that the buffer didn't take
abbrev pub rest_piece : ℕ → EventKind → Piece → List Piece
rest_piece room (Bytes n) piece =
    if nat_lt room n
    then record {
      event = record piece.event { kind = Bytes (n - room) };
      start =
          piece.start + room;
    } ∷ []
    else []
rest_piece room Closed piece = []
rest_piece room End piece = []

-- the next piece, and at last the end
abbrev pub next_piece_told : ℕ → ℕ → List Piece → Piece
next_piece_told room last [] =
    record { event = record { conn = 0; moment = last; kind = End }; start = 0 }
next_piece_told room last (piece ∷ later) = front_piece room piece

-- the pieces to come behind it
abbrev pub then_pieces : ℕ → List Piece → List Piece
then_pieces room [] = []
then_pieces room (piece ∷ later) = rest_piece room piece.event.kind piece ++ later
