-- The trees of the operands of an expression, read off its own tree. Where that is done, so are its
-- operands', and no value has an entry.
use Rattle.std.specs.Prelude.{ℕ, List, [], ◌∷◌, ◌++◌, map, Option, Some, None}
use Rattle.ix_values.specs.PlainAction.{PlainAction}
use Rattle.ix_tree.specs.Plain.{Plain, done, opt, and, couple, every, sync, all, items_of}
use Rattle.ix_tree.specs.Order.{key}
use Rattle.ix_can.specs.May.{tree_at}

-- the tree of the only operand or of the left one; of a body, that of a value without an entry
abbrev pub left : Plain → Plain
left (opt empty t) = t
left (and t u) = t
left (couple t u) = t
left (every common es) = common
left (sync common es) = common
left t = done

-- the tree of the right operand
abbrev pub right : Plain → Plain
right (and t u) = u
right (couple t u) = u
right t = done

-- the entries of values
abbrev pub entries : Plain → List Plain
entries (every common es) = items_of es
entries (sync common es) = items_of es
entries t = []

-- the maps of owners
abbrev pub owner_maps : Plain → List Plain
owner_maps (all ms) = items_of ms
owner_maps t = []

-- the tree of a body for a value, None being outside
abbrev pub tree_for : Option (List ℕ) → Plain → Plain
tree_for None t = left t
tree_for (Some v) t = tree_at v (left t) (entries t)

-- the values in the order in which they are tried: the action's, those that have an entry, and
-- outside, which stands for every other
abbrev pub tried : PlainAction → Plain → List (Option (List ℕ))
tried a t = map Some a.values ++ (map (λ x. Some (key x)) (entries t) ++ None ∷ [])
