-- What a site keeps of the calls that fail.
use Rattle.std.specs.Prelude.{ℕ, List, Option, Some}
use Rattle.ix_memory.specs.Calls.{CallList}

-- which calls fail by their number, how many of these numbers were added later, how many calls pass
-- before all fail, and the room that is left; no room once it was passed
pub record PlanState : Type 0 where
  pub calls : CallList
  pub added : ℕ
  pub fuse : Option ℕ
  pub left : Option ℕ

-- before any call
abbrev pub fresh_plan : List ℕ → Option ℕ → ℕ → PlanState
fresh_plan fail fuse room =
    record { calls = record { fail = fail; number = 0 }; added = 0; fuse = fuse; left = Some room }
