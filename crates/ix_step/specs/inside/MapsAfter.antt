-- The maps of the quantifier `all` after an action, and what is asked of a map before one of its
-- trees is moved.
use Rattle.std.specs.Prelude.{ℕ, ◌≤◌, not, List, ◌++◌, flat_map, filter, Some}
use Rattle.ix_values.specs.PlainAction.{PlainAction}
use Rattle.ix_expr.specs.Form.{Form}
use Rattle.ix_expr.specs.Environment.{Environment, bind}
use Rattle.ix_expr.specs.Fitting.{FitsInside}
use Rattle.ix_expr.specs.Laws.{EachAtomNames}
use Rattle.ix_tree.specs.Plain.{Plain, dead, map as map_of, items_of}
use Rattle.ix_tree.specs.Order.{key, first_part}
use Rattle.ix_tree.specs.Size.{size_of}
use Rattle.ix_values.specs.Order.{text_eq}
use Rattle.ix_can.specs.Nodes.{set_of}
use Rattle.ix_can.specs.Laws.{IsProper, ProperEntries}
use Rattle.ix_can.specs.May.{tree_at}
use Rattle.ix_can.specs.inside.Moved.{moved, map_with, entry_with, or_initial}
use Rattle.ix_step.specs.inside.Limits.{most_size}

-- the map is a proper one beside the initial tree, and not too large
pub record HoldsWell (y : Form) (initial : Plain) (m : Plain) : Type 0 where
  pub beside : ProperEntries (IsProper y) initial (items_of (first_part m))
  pub small : size_of m ≤ most_size

-- the operand fits under every value, each atom of it names the parameter, and the initial tree is
-- a proper one and not too large
pub record ReadyToBegin (p : List ℕ) (y : Form) (e : Environment) (initial : Plain) : Type 0 where
  pub fits : FitsInside p y e
  pub named : EachAtomNames p y
  pub proper : IsProper y initial
  pub small : size_of initial ≤ most_size

-- the map in which the value has this tree and all others are as before
abbrev pub with_tree : Plain → List ℕ → Plain → List Plain → Plain
with_tree initial v x entries =
    map_of (set_of (entry_with initial v x
    ++ filter (λ other. not (text_eq (key other) v)) entries))

-- the tree of the value in the map after the action; a value without a tree begins with the initial
-- one
abbrev pub begun_tree : List ℕ → Form → Environment → PlainAction → Plain → Plain → List ℕ → Plain
begun_tree p y e a initial m v =
    moved y (bind p (Some v) e) (or_initial initial (tree_at v dead (items_of (first_part m)))) a

-- the map in which the value's tree is moved, if it is live
abbrev pub map_after : List ℕ → Form → Environment → PlainAction → Plain → Plain → List ℕ
    → List Plain
map_after p y e a initial m v =
    map_with initial v (begun_tree p y e a initial m v) (items_of (first_part m))

-- for each value the map in which its tree is moved
abbrev pub maps_after : List ℕ → Form → Environment → PlainAction → Plain → List (List ℕ) → Plain
    → List Plain
maps_after p y e a initial values m = flat_map (map_after p y e a initial m) values
