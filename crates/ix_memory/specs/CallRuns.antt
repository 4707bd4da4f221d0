-- Which of many calls fail.
use Rattle.std.specs.Prelude.{◌≡◌, ℕ, ◌+◌, ◌^◌, ◌<◌, ◌≤◌, ◌==◌, nat_lt, ◌||◌, false, List, [], ◌∷◌}
use Rattle.std.specs.Prelude.{length, sum, Option, None}
use Rattle.std.specs.List.{list_any}
use Rattle.ix_memory.specs.PlanState.{PlanState, fresh_plan}
use Rattle.ix_memory.specs.Plan.{plan_after, fails_at, is_spent_by}

-- after calls of these costs
abbrev pub after_calls : PlanState → List ℕ → PlanState
after_calls plan [] = plan
after_calls plan (cost ∷ costs) = after_calls (plan_after plan cost) costs

-- a call fails exactly where its number stands in the list, or so many calls as the fuse says were
-- made before, or its cost and those of all calls before it are together above the room
abbrev pub FailsWhereTold : Type 0
FailsWhereTold = (fail : List ℕ) (fuse : Option ℕ) (room : ℕ) (before : List ℕ) (cost : ℕ)
    → length before < 2 ^ 64
    → fails_at (after_calls (fresh_plan fail fuse room) before) cost
    ≡ (list_any (λ number. number == length before) fail || is_spent_by fuse (length before)
    || nat_lt room (sum before + cost))

-- where none is told to fail and there is no fuse, no call fails that there is room for
abbrev pub NoneFailsUntold : Type 0
NoneFailsUntold = (room : ℕ) (before : List ℕ) (cost : ℕ) → sum before + cost ≤ room
    → fails_at (after_calls (fresh_plan [] None room) before) cost ≡ false
