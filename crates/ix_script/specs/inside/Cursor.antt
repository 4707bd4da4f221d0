-- What a place in a script leaves.
use Rattle.std.specs.Prelude.{◌≡◌, ℕ, ◌<◌, List, [], ◌++◌, length, Some}
use Rattle.ix_outside.specs.Contents.{GivenEvent, piece_of}
use Rattle.ix_outside.specs.Event.{FitsBuffer}
use Rattle.ix_outside.specs.declared.event.Event.{Event}
use Rattle.ix_lines.specs.TextLines.{lines_of}
use Rattle.ix_script.specs.Pieces.{left_after}
use Rattle.ix_script.specs.inside.NextPiece.{next_piece}
use Rattle.ix_script.specs.inside.Progress.{events_at, end_bytes, with_bytes}
use Rattle.ix_script.specs.declared.cursor.Cursor.{Cursor}

-- the bytes of the line that was begun which are still to come
abbrev pub open_bytes : Cursor → List ℕ
open_bytes cursor = cursor.text.now ++ end_bytes cursor.line_end

-- the events of the lines that weren't begun, and the end
abbrev pub later_events : Cursor → List GivenEvent
later_events cursor = events_at cursor.moment (lines_of cursor.rest.now)

-- the events that are still to come
abbrev pub left_of : Cursor → List GivenEvent
left_of cursor = with_bytes cursor.moment cursor.conn (open_bytes cursor) (later_events cursor)

-- the same events are to come, the first of them with bytes of the line that was begun
pub record IsCursorAt (old new : Cursor) : Type 0 where
  pub same : left_of new ≡ left_of old
  pub some : 0 < length (open_bytes new)

-- an event without bytes comes next, whatever the buffer
pub record IsBare (old : Cursor) (event : Event) (new : Cursor) : Type 0 where
  pub fits : (room : ℕ) → FitsBuffer room event
  pub none : (buf : List ℕ) → piece_of event.kind buf ≡ []
  pub next : (room : ℕ)
      → next_piece room (left_of old) ≡ Some (record { event = event; bytes = [] })
  pub left : (room : ℕ) → left_of new ≡ left_after room (left_of old)
