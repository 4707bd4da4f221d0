-- How one call of a site ends, as the code finds it.
use Rattle.std.specs.Prelude.{◌≡◌, ℕ, ◌+◌, ◌||◌, if◌then◌else◌, Bool, true, false, unwrap_or}
use Rattle.ix_memory.specs.Calls.{is_told}
use Rattle.ix_memory.specs.PlanState.{PlanState}
use Rattle.ix_memory.specs.declared.past.Effect.{Effect}
use Rattle.ix_memory.specs.declared.past.Effect.TheVariants.{Kept}
use Rattle.ix_memory.specs.declared.plan.Fate.{Fate}
use Rattle.ix_memory.specs.declared.plan.Fate.TheVariants.{Works, Fails, Full}
use Rattle.ix_memory.specs.Plan.{is_spent_by, is_full, fails_at}

-- how the next call fares; a call for which there is no room changes nothing, whatever else is told
-- of it
abbrev pub fate_of : PlanState → ℕ → Fate
fate_of plan cost =
    if is_full plan cost then Full
    else if is_told plan.calls || is_spent_by plan.fuse plan.calls.number then Fails
    else Works

-- the room that is left, 0 once it was passed
abbrev pub room_of : PlanState → ℕ
room_of plan = unwrap_or plan.left 0

-- a call takes its cost from the room, unless there is no room for it
abbrev pub TakesRoom : Fate → ℕ → PlanState → PlanState → Type 0
TakesRoom Full cost old new = room_of new ≡ 0
TakesRoom Fails cost old new = room_of new + cost ≡ room_of old
TakesRoom Works cost old new = room_of new + cost ≡ room_of old

-- what the fate of the next call tells: whether it fails, and whether there is no room for it
pub record TellsFate (plan : PlanState) (cost : ℕ) (fails full : Bool) : Type 0 where
  pub of_failing : fails_at plan cost ≡ fails
  pub of_room : is_full plan cost ≡ full

-- a call that works doesn't fail, one that fails as it is told to has room, and the others have
-- none
abbrev pub TellsPlanned : Fate → PlanState → ℕ → Type 0
TellsPlanned Works plan cost = TellsFate plan cost false false
TellsPlanned Fails plan cost = TellsFate plan cost true false
TellsPlanned Full plan cost = TellsFate plan cost true true

-- a call that doesn't work has no effect
abbrev pub effect_where : Fate → Effect → Effect
effect_where Works effect = effect
effect_where Fails effect = Kept
effect_where Full effect = Kept
