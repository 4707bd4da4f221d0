-- Events in pieces that fit a buffer.
use Rattle.std.specs.Prelude.{ℕ, suc, zero, nat_le, if◌then◌else◌, List, [], ◌∷◌, length, take}
use Rattle.std.specs.Prelude.{drop}
use Rattle.ix_outside.specs.Contents.{GivenEvent}
use Rattle.ix_script.specs.Events.{bytes_event}

-- what fits a buffer of this length: the event, or the front of a piece that is longer
abbrev pub fitting : ℕ → GivenEvent → GivenEvent
fitting room given =
    if nat_le (length given.bytes) room then given
    else bytes_event given.event.moment given.event.conn (take room given.bytes)

-- a piece without its first bytes
abbrev pub rest_behind : ℕ → GivenEvent → GivenEvent
rest_behind count given = bytes_event given.event.moment given.event.conn (drop count given.bytes)

-- what is left of events when so many bytes of the first of them were given; the last of all, the
-- end, stays
abbrev pub left_after : ℕ → List GivenEvent → List GivenEvent
left_after count [] = []
left_after count (given ∷ []) = given ∷ []
left_after count (given ∷ next ∷ later) =
    if nat_le (length given.bytes) count then next ∷ later
    else rest_behind count given ∷ next ∷ later

-- the first so many pieces of these events for a buffer of this length, the end again and again
-- behind the last
abbrev pub pieces_of : ℕ → ℕ → List GivenEvent → List GivenEvent
pieces_of room zero events = []
pieces_of room (suc count) [] = []
pieces_of room (suc count) (given ∷ later) = fitting room given
    ∷ pieces_of room count (left_after room (given ∷ later))
