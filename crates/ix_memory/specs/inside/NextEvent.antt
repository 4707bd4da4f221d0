-- Which event comes next, through a buffer of a length.
use Rattle.std.specs.Prelude.{ℕ, ◌-◌, nat_lt, if◌then◌else◌, min, List, [], ◌∷◌, ◌++◌, take, drop}
use Rattle.ix_outside.specs.Contents.{GivenEvent}
use Rattle.ix_outside.specs.declared.event.EventKind.{EventKind}
use Rattle.ix_outside.specs.declared.event.EventKind.TheVariants.{Bytes, Closed, End}

-- as many of an event's bytes as the buffer takes
abbrev pub front_kind : ℕ → EventKind → EventKind
front_kind room (Bytes n) = Bytes (min n room)
front_kind room Closed = Closed
front_kind room End = End

-- an event as it comes through a buffer
abbrev pub front_of : ℕ → GivenEvent → GivenEvent
front_of room given =
    record {
      event = record given.event { kind = front_kind room given.event.kind };
      bytes =
          take room given.bytes;
    }

-- what of an event is still to come behind that: the bytes that the buffer didn't take
abbrev pub rest_of : ℕ → EventKind → GivenEvent → List GivenEvent
rest_of room (Bytes n) given =
    if nat_lt room n then record {
      event = record given.event { kind = Bytes (n - room) };
      bytes =
          drop room given.bytes;
    } ∷ []
    else []
rest_of room Closed given = []
rest_of room End given = []

-- the end, with connection 0
abbrev pub end_at : ℕ → GivenEvent
end_at moment = record { event = record { conn = 0; moment = moment; kind = End }; bytes = [] }

-- the next event: the front of the first that is to come, and at last the end
abbrev pub next_event : ℕ → ℕ → List GivenEvent → GivenEvent
next_event room last [] = end_at last
next_event room last (given ∷ later) = front_of room given

-- the events to come behind that
abbrev pub then_coming : ℕ → List GivenEvent → List GivenEvent
then_coming room [] = []
then_coming room (given ∷ later) = rest_of room given.event.kind given ++ later
