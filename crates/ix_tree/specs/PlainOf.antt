-- The plain trees that the parts of nodes stand for.
use Rattle.std.specs.Prelude.{ℕ, List, map as each}
use Rattle.ix_tree.specs.Plain.{Plain, pair, bag, map, entry, listed}
use Rattle.ix_tree.specs.declared.node.Pair.{Pair}
use Rattle.ix_tree.specs.declared.node.Bag.{Bag}
use Rattle.ix_tree.specs.declared.node.Map.{Map}

-- the plain entry of a value and its tree
abbrev pub plain_entry : List ℕ × Plain → Plain
plain_entry e = entry e.0 e.1

-- the plain list of entries
abbrev pub plain_entries : List (List ℕ × Plain) → Plain
plain_entries es = listed (each plain_entry es)

-- the plain pair of a pair
abbrev pub plain_pair : Pair → Plain
plain_pair p = pair p.first p.second

-- the plain bag of a bag
abbrev pub plain_bag : Bag → Plain
plain_bag b = bag (listed b.items.items)

-- the plain map of a map
abbrev pub plain_map : Map → Plain
plain_map m = map (plain_entries m.entries)
