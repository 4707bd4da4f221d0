-- Which calls of a site fail.
use Rattle.std.specs.Prelude.{ℕ, ◌-◌, nat_lt, nat_le, ◌||◌, if◌then◌else◌, Bool, false, Option}
use Rattle.std.specs.Prelude.{None, Some, is_none}
use Rattle.ix_memory.specs.Calls.{is_told, next_call}
use Rattle.ix_memory.specs.PlanState.{PlanState}

-- the room that is left behind a cost
abbrev pub room_left_behind : ℕ → Option ℕ → Option ℕ
room_left_behind cost None = None
room_left_behind cost (Some room) = if nat_lt room cost then None else Some (room - cost)

-- so many calls were made that the fuse is spent
abbrev pub is_spent_by : Option ℕ → ℕ → Bool
is_spent_by None number = false
is_spent_by (Some fuse) number = nat_le fuse number

-- the next call passes the room, or it was passed before
abbrev pub is_full : PlanState → ℕ → Bool
is_full plan cost = is_none (room_left_behind cost plan.left)

-- the next call fails: its number is one of those, the fuse is spent, or the room is passed
abbrev pub fails_at : PlanState → ℕ → Bool
fails_at plan cost = is_told plan.calls || is_spent_by plan.fuse plan.calls.number
    || is_full plan cost

-- after one more call
abbrev pub plan_after : PlanState → ℕ → PlanState
plan_after plan cost =
    record plan { calls = next_call plan.calls; left = room_left_behind cost plan.left }
