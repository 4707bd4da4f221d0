-- What it means on the way of a step that a tree or a set of alternatives is made within a limit.
use Rattle.std.specs.Prelude.{◌≡◌, ℕ, Bool, ◌+◌, ◌<◌, ◌≤◌, List, [], ◌∷◌, Result, MatchResult}
use Rattle.std.specs.BTreeSet.{insert_key}
use Rattle.std.specs.List.{sum_by}
use Rattle.std.specs.declared.cmp.Ordering.{Ordering}
use Rattle.ix_words.specs.Canon.{put_once}
use Rattle.ix_alts.specs.inside.Alternatives.{Alternatives, HasItem}
use Rattle.ix_tree.specs.Plain.{Plain, listed}
use Rattle.ix_tree.specs.Order.{tree_cmp}
use Rattle.ix_tree.specs.Size.{size_of}
use Rattle.ix_step.specs.declared.fault.Unbuilt.{Unbuilt}
use Rattle.ix_step.specs.declared.fault.Unbuilt.TheVariants.{Over}

-- the tree is above the limit, unless memory ran out
abbrev pub IsAboveLimit : ℕ → Plain → Unbuilt → Type 0
IsAboveLimit limit x fault = fault ≡ Over → limit < size_of x

-- the tree x was made and is within the limit, or it is above the limit, or memory ran out
abbrev pub Makes : ℕ → Plain → Result Plain Unbuilt → Type 0
Makes limit x r = MatchResult r (λ tree. (tree ≡ x) × (size_of x ≤ limit)) (IsAboveLimit limit x)

-- the list into which the trees are put one by one, each where it is new
abbrev pub put_all : List Plain → List Plain → List Plain
put_all [] xs = xs
put_all (y ∷ ys) xs = put_all ys (put_once tree_cmp y xs)

-- the trees were put into the list, or the list that they would give is above the limit, or memory
-- ran out
abbrev pub Gathers : ℕ → List Plain → List Plain → List Plain → Result (Unit {0}) Unbuilt → Type 0
Gathers limit trees old new r =
    MatchResult r (λ done. new ≡ put_all trees old)
    (IsAboveLimit limit (listed (put_all trees old)))

-- an item was put into a set, or with it the set would weigh more than its budget, or memory ran
-- out
abbrev pub PutsItem : {T : Type 0} → (T → T → Ordering) → (T → ℕ) → Alternatives T → List T → T
    → Result (Unit {0}) Unbuilt → Type 0
PutsItem cmp weight set new item r =
    MatchResult r (λ done. new ≡ insert_key cmp set.items item)
    (λ fault. fault ≡ Over → (¬ HasItem cmp set.items item)
    × (set.budget < sum_by weight set.items + weight item))

-- the set holds the trees, each once, within the limit, or together they are above it, or memory
-- ran out
abbrev pub Collects : {T : Type 0} → (List T → List Plain) → ℕ → List Plain
    → Result (Alternatives T) Unbuilt → Type 0
Collects view limit trees r =
    MatchResult r (λ set. (view set.items ≡ put_all trees []) × (set.budget ≡ limit)
    × (size_of (listed (view set.items)) ≤ limit))
    (IsAboveLimit limit (listed (put_all trees [])))

-- the set holds the trees, each once, within the limit, and the flag is this one, or the trees are
-- together above it, or memory ran out
abbrev pub CollectsOpen : ℕ → List Plain → Bool → Result (Alternatives Plain × Bool) Unbuilt
    → Type 0
CollectsOpen limit trees ended r =
    MatchResult r (λ made. (made.0.items ≡ put_all trees []) × (made.0.budget ≡ limit)
    × (size_of (listed made.0.items) ≤ limit) × (made.1 ≡ ended))
    (IsAboveLimit limit (listed (put_all trees [])))
