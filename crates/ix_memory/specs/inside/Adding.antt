-- A call that is told to fail later than the others.
use Rattle.std.specs.Prelude.{ℕ, ◌+◌, [], ◌∷◌, ◌++◌}
use Rattle.ix_memory.specs.PlanState.{PlanState}

-- with one more number of a call that fails
abbrev pub with_failing : ℕ → PlanState → PlanState
with_failing number plan = record plan {
  calls = record plan.calls { fail = plan.calls.fail ++ number ∷ [] };
  added = plan.added + 1;
}
