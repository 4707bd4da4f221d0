-- Sets of alternatives as contracts see them.
use Rattle.std.specs.Prelude.{◌≡◌, ℕ, ◌+◌, ◌<◌, ◌≤◌, ◌^◌, List}
use Rattle.std.specs.List.{sum_by, Any}
use Rattle.std.specs.List.Sorted.{IsStrictlySortedBy}
use Rattle.std.specs.declared.cmp.Ordering.{Ordering}
use Rattle.std.specs.declared.cmp.Ordering.TheVariants.{Equal}

-- the items in ascending order, and the most that they may weigh together
pub record Alternatives (T : Type 0) : Type 0 where
  pub items : List T
  pub budget : ℕ

-- an item equal to this one is in the list
abbrev pub HasItem : {T : Type 0} → (T → T → Ordering) → List T → T → Type 0
HasItem cmp xs item = Any (λ x. cmp x item ≡ Equal) xs

-- what holds of every set: its items ascend strictly, and weigh as much as it says and no more than
-- its budget
pub record IsAltSet {T : Type 0} (cmp : T → T → Ordering) (weight : T
    → ℕ) (items : List T) (total budget : ℕ) : Type 0 where
  pub ascending : IsStrictlySortedBy cmp items
  pub counted : total ≡ sum_by weight items
  pub within : total ≤ budget
  pub small : budget ≤ 2 ^ 32

-- the item is new to the set, and with it the items weigh this much, which is above the budget
pub record ExceedsBudget {T : Type 0} (cmp : T → T → Ordering) (weight : T
    → ℕ) (set : Alternatives T) (item : T) (budget size : ℕ) : Type 0 where
  pub is_new : ¬ HasItem cmp set.items item
  pub limit : budget ≡ set.budget
  pub sum : size ≡ sum_by weight set.items + weight item
  pub above : budget < size
