-- What it means that the trees of values are put among entries beside a common tree.
use Rattle.std.specs.Prelude.{◌≡◌, ℕ, ◌≤◌, List, [], map, Result, MatchResult}
use Rattle.ix_tree.specs.Plain.{Plain, listed, more}
use Rattle.ix_tree.specs.PlainOf.{plain_entry, plain_entries}
use Rattle.ix_tree.specs.Size.{size_of}
use Rattle.ix_can.specs.TreeOf.{entries_of}
use Rattle.ix_step.specs.inside.Makes.{IsAboveLimit, put_all}
use Rattle.ix_step.specs.declared.fault.Unbuilt.{Unbuilt}

-- the entries of the values, put one after the other
abbrev pub entries_put : Plain → (List ℕ → Plain) → List (List ℕ) → List Plain
entries_put common tree values = put_all (entries_of common tree values) []

-- the entries are those of the values, and together of this Size
pub record HoldTrees (common : Plain) (tree : List ℕ
    → Plain) (values : List (List ℕ)) (entries : List (List ℕ × Plain)) (total : ℕ) : Type 0 where
  pub items : map plain_entry entries ≡ entries_put common tree values
  pub counted : total ≡ size_of (plain_entries entries)

-- the entries of the values are there and within the limit, or with the common tree they are above
-- it, or memory ran out
abbrev pub EnterTrees : ℕ → Plain → (List ℕ → Plain) → List (List ℕ) → List (List ℕ × Plain)
    → Result ℕ Unbuilt → Type 0
EnterTrees limit common tree values entries r =
    MatchResult r (λ total. HoldTrees common tree values entries total × (total ≤ limit))
    (IsAboveLimit limit (more common (listed (entries_put common tree values))))
