-- The events of a script as they are computed, and how far they were given.
use Rattle.std.specs.Prelude.{ℕ, ◌+◌, ◌-◌, ◌*◌, Bool, true, false, ◌==◌, if◌then◌else◌, List, []}
use Rattle.std.specs.Prelude.{◌∷◌}
use Rattle.ix_outside.specs.Contents.{GivenEvent}
use Rattle.ix_script.specs.Events.{bytes_event, end_event, line_event}
use Rattle.ix_lines.specs.TextLines.{lines_of}
use Rattle.ix_script.specs.Pieces.{fitting, left_after}

-- what stands before the first space
abbrev pub before_space : List ℕ → List ℕ
before_space [] = []
before_space (byte ∷ bytes) = if byte == 32 then [] else byte ∷ before_space bytes

-- what stands behind the first space
abbrev pub behind_space : List ℕ → List ℕ
behind_space [] = []
behind_space (byte ∷ bytes) = if byte == 32 then bytes else behind_space bytes

-- the number that digits behind those of a number stand for
abbrev pub number_from : ℕ → List ℕ → ℕ
number_from number [] = number
number_from number (digit ∷ digits) = number_from (number * 10 + (digit - 48)) digits

-- a line's moment
abbrev pub moment_of : List ℕ → ℕ
moment_of line = number_from 0 (before_space line)

-- a line's connection
abbrev pub conn_of : List ℕ → ℕ
conn_of line = number_from 0 (before_space (behind_space line))

-- a line's text
abbrev pub text_behind_two : List ℕ → List ℕ
text_behind_two line = behind_space (behind_space line)

-- the events of lines, and the end at the last one's moment, or at this one where there is none
abbrev pub events_at : ℕ → List (List ℕ) → List GivenEvent
events_at moment [] = end_event moment ∷ []
events_at moment (line ∷ lines) =
    line_event (moment_of line) (conn_of line) (text_behind_two line)
    ∷ events_at (moment_of line) lines

-- the events of a script
abbrev pub events_of : List ℕ → List GivenEvent
events_of bytes = events_at 0 (lines_of bytes)

-- the events that buffers of these lengths get, one after the other
abbrev pub given_by : List ℕ → List GivenEvent → List GivenEvent
given_by [] events = []
given_by (room ∷ rooms) [] = []
given_by (room ∷ rooms) (given ∷ later) =
    fitting room given ∷ given_by rooms (left_after room (given ∷ later))

-- what these buffers leave of the events
abbrev pub left_by : List ℕ → List GivenEvent → List GivenEvent
left_by [] events = events
left_by (room ∷ rooms) events = left_by rooms (left_after room events)

-- byte 10, where the line's end is still to come
abbrev pub end_bytes : Bool → List ℕ
end_bytes true = 10 ∷ []
end_bytes false = []

-- these bytes are still to come before the later events
abbrev pub with_bytes : ℕ → ℕ → List ℕ → List GivenEvent → List GivenEvent
with_bytes moment conn [] later = later
with_bytes moment conn (byte ∷ bytes) later = bytes_event moment conn (byte ∷ bytes) ∷ later
