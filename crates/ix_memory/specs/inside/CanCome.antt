-- The events that a site is made with.
use Rattle.std.specs.Prelude.{◌≡◌, ℕ, ◌<◌, ◌≤◌, List, [], ◌∷◌, length, map, ⊤, Vec}
use Rattle.std.specs.declared.alloc.Global.{Global}
use Rattle.ix_outside.specs.Contents.{GivenEvent}
use Rattle.ix_outside.specs.declared.event.Event.{Event}
use Rattle.ix_outside.specs.declared.event.EventKind.{EventKind}
use Rattle.ix_outside.specs.declared.event.EventKind.TheVariants.{Bytes, Closed, End}

-- so many bytes, from 1 to 4,096, stand beside as many, and every other event beside none; an end
-- has connection 0
abbrev pub StandsBeside : EventKind → ℕ → List ℕ → Type 0
StandsBeside (Bytes n) conn bytes = (length bytes ≡ n) × (0 < n) × (n ≤ 4096)
StandsBeside Closed conn bytes = bytes ≡ []
StandsBeside End conn bytes = (bytes ≡ []) × (conn ≡ 0)

-- an event of a connection from 0 to 63 beside its bytes
abbrev pub CanCome : GivenEvent → Type 0
CanCome given = (given.event.conn < 64) × StandsBeside given.event.kind given.event.conn given.bytes

-- each event can come
abbrev pub CanAllCome : List GivenEvent → Type 0
CanAllCome [] = ⊤
CanAllCome (given ∷ later) = CanCome given × CanAllCome later

-- the moment of the last event, or this one where there is none
abbrev pub last_moment : ℕ → List GivenEvent → ℕ
last_moment moment [] = moment
last_moment moment (given ∷ later) = last_moment given.event.moment later

-- an event and its bytes
abbrev pub beside : Event × Vec ℕ Global → GivenEvent
beside event = record { event = event.0; bytes = event.1.items }

-- the events with their bytes
abbrev pub events_beside : List (Event × Vec ℕ Global) → List GivenEvent
events_beside events = map beside events
