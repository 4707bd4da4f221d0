-- State trees as contracts see them: plain data of the same forms, with no pointers in it; and
-- lists as parts.
use Rattle.std.specs.Prelude.{ℕ, Bool, true, false, List, [], ◌∷◌}

-- a tree, or a part of one: a pair, a bag, a map, an entry, or a list of trees or parts
pub data Plain : Type 0 where
  dead : Plain
  start : Plain
  done : Plain
  opt : Bool → Plain → Plain
  seq : Plain → Bool → Plain → Plain
  star : Bool → Plain → Plain
  par : Plain → Plain
  par_star : Plain → Plain
  or : Plain → Plain → Plain
  and : Plain → Plain → Plain
  couple : Plain → Plain → Plain
  any : Plain → Plain → Plain
  every : Plain → Plain → Plain
  sync : Plain → Plain → Plain
  all : Plain → Plain
  times : Plain → Plain
  pair : Plain → Plain → Plain
  bag : Plain → Plain
  map : Plain → Plain
  entry : List ℕ → Plain → Plain
  none : Plain
  more : Plain → Plain → Plain

-- whether the tree is dead
abbrev pub is_dead : Plain → Bool
is_dead dead = true
is_dead _ = false

-- whether the tree is done
abbrev pub is_done : Plain → Bool
is_done done = true
is_done _ = false

-- a list of trees or parts as one part
abbrev pub listed : List Plain → Plain
listed [] = none
listed (x ∷ xs) = more x (listed xs)

-- the items of such a part
abbrev pub items_of : Plain → List Plain
items_of (more x xs) = x ∷ items_of xs
items_of _ = []
