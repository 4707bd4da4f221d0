-- The trees of an operand under each value of a quantifier's parameter, and what is asked of them
-- before they are moved.
use Rattle.std.specs.Prelude.{◌≡◌, ◌⊎◌, ℕ, ◌+◌, ◌≤◌, Bool, true, List, ◌++◌, map, flat_map, Some}
use Rattle.std.specs.Prelude.{None, Result, MatchResult}
use Rattle.std.specs.Map.{keys_of}
use Rattle.ix_words.specs.Each.{Each, Member}
use Rattle.ix_values.specs.PlainAction.{PlainAction}
use Rattle.ix_expr.specs.Form.{Form}
use Rattle.ix_expr.specs.Environment.{Environment, bind}
use Rattle.ix_expr.specs.Fitting.{FitsInside}
use Rattle.ix_expr.specs.Sees.{Sees}
use Rattle.ix_tree.specs.Plain.{Plain, listed, more, items_of}
use Rattle.ix_tree.specs.PlainOf.{plain_entry, plain_entries}
use Rattle.ix_tree.specs.Order.{key, first_part}
use Rattle.ix_tree.specs.Size.{size_of}
use Rattle.ix_can.specs.Nodes.{set_of}
use Rattle.ix_expr.specs.Tests.{in_alphabet}
use Rattle.ix_can.specs.Laws.{IsProper, ProperEntries}
use Rattle.ix_can.specs.May.{may, moves_within, tree_at}
use Rattle.ix_can.specs.inside.Moved.{moved, moved_inside, entry_with}
use Rattle.ix_step.specs.inside.Limits.{most_size}
use Rattle.ix_step.specs.inside.Makes.{IsAboveLimit}
use Rattle.ix_step.specs.declared.bodies.Reach.{Reach}
use Rattle.ix_step.specs.declared.bodies.Reach.TheVariants.{All, Must, OwnAlphabet}
use Rattle.ix_step.specs.declared.fault.Unbuilt.{Unbuilt}

-- the operand fits under every value, and the trees are proper ones of it and not too large
pub record ReadyInside (p : List ℕ) (y : Form) (e : Environment) (common : Plain)
    (entries : List Plain) : Type 0 where
  pub fits : FitsInside p y e
  pub proper : IsProper y common
  pub beside : ProperEntries (IsProper y) common entries
  pub small : 1 + size_of common + size_of (listed entries) ≤ most_size

-- the moved tree; where only what is in the alphabet moves, the tree as it was outside it
abbrev pub moved_part : Reach → Form → Environment → PlainAction → Plain → Plain
moved_part All y e a t = moved y e t a
moved_part Must y e a t = moved y e t a
moved_part OwnAlphabet y e a t = moved_inside (in_alphabet y e a) (moved y e t a) t

-- the common tree after the action
abbrev pub common_after : Reach → List ℕ → Form → Environment → PlainAction → Plain → Plain
common_after reach p y e a common = moved_part reach y (bind p None e) a common

-- the tree of the value after the action
abbrev pub tree_after : Reach → List ℕ → Form → Environment → PlainAction → Plain → List Plain
    → List ℕ → Plain
tree_after reach p y e a common entries v =
    moved_part reach y (bind p (Some v) e) a (tree_at v common entries)

-- the entries after the action: those of the values that had one, and of the action's
abbrev pub entries_after : Reach → List ℕ → Form → Environment → PlainAction → Plain → Plain → Plain
entries_after reach p y e a common entries =
    set_of (flat_map (λ x.
    entry_with (common_after reach p y e a common) (key x)
    (moved_part reach y (bind p (Some (key x)) e) a (first_part x))) (items_of entries)
    ++ flat_map (λ v. entry_with (common_after reach p y e a common) v
    (tree_after reach p y e a common (items_of entries) v)) a.values)

-- the values that have entries, and those of the action
abbrev pub touched : List (List ℕ × Plain) → PlainAction → List (List ℕ)
touched entries a = keys_of entries ++ a.values

-- whether the tree may move, where it must: where only what is in the alphabet moves, what is
-- outside it stands still
abbrev pub part_may : Reach → Form → Environment → PlainAction → Plain → Bool
part_may All y e a t = true
part_may Must y e a t = may y e t a
part_may OwnAlphabet y e a t = moves_within (in_alphabet y e a) (may y e t a)

-- the tree of each value that has an entry or is the action's may move, where it must
abbrev pub EachMay : Reach → List ℕ → Form → Environment → PlainAction → Plain
    → List (List ℕ × Plain) → Type 0
EachMay reach p y e a common entries =
    Each (λ v. part_may reach y (bind p (Some v) e) a (tree_at v common (map plain_entry entries))
    ≡ true) (touched entries a)

-- of the values that are offered those are added that some atom sees, and each that was there stays
pub record AddsSeen (y : Form) (p : List ℕ) (a : PlainAction)
    (offered old new : List (List ℕ)) : Type 0 where
  pub within : (v : List ℕ) → Member v new → Member v old ⊎ Member v offered
  pub kept : (v : List ℕ) → Member v old → Member v new
  pub seen : (v : List ℕ) → Member v offered → Member v new ⊎ (¬ Sees y p v a)

-- the values are touched ones, and take in each that has an entry and each of the action's that
-- some atom sees
pub record TakesIn (y : Form) (p : List ℕ) (a : PlainAction) (entries : List (List ℕ × Plain))
    (values : List (List ℕ)) : Type 0 where
  pub within : (v : List ℕ) → Member v values → Member v (touched entries a)
  pub entered : (v : List ℕ) → Member v (keys_of entries) → Member v values
  pub seen : (v : List ℕ) → Member v a.values → Member v values ⊎ (¬ Sees y p v a)

-- the entries were made and are within the limit, or with the common tree they are above it, or
-- memory ran out
abbrev pub MakesEntries : ℕ → Plain → Plain → Result (List (List ℕ × Plain)) Unbuilt → Type 0
MakesEntries limit common entries r =
    MatchResult r (λ made. (plain_entries made ≡ entries)
    × (size_of entries ≤ limit)) (IsAboveLimit limit (more common entries))

-- the common tree and the entries were made, or together they are above the limit, or memory ran
-- out
abbrev pub MakesParts : ℕ → Plain → Plain → Result (Plain × List (List ℕ × Plain)) Unbuilt → Type 0
MakesParts limit common entries r =
    MatchResult r (λ parts. (parts.0 ≡ common) × (plain_entries parts.1 ≡ entries)
    × (size_of common ≤ limit) × (size_of entries ≤ limit))
    (IsAboveLimit limit (more common entries))

-- the entries were made and aren't large beyond measure, or with the common tree they are above the
-- limit, or memory ran out
abbrev pub MakesOwn : ℕ → Plain → Plain → Result (List (List ℕ × Plain)) Unbuilt → Type 0
MakesOwn limit common entries r =
    MatchResult r (λ made. (plain_entries made ≡ entries)
    × (size_of entries ≤ 10000000)) (IsAboveLimit limit (more common entries))

-- the tree of one value was made and is within the limit, or the common tree and the entries are
-- above it, or memory ran out
abbrev pub MakesOne : ℕ → Plain → Plain → Plain → Result Plain Unbuilt → Type 0
MakesOne limit tree common entries r =
    MatchResult r (λ made. (made ≡ tree)
    × (size_of tree ≤ limit)) (IsAboveLimit limit (more common entries))
