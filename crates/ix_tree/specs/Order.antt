-- The order of trees: by form, and within a form part by part, the first difference deciding.
use Rattle.std.specs.Prelude.{ℕ, true, false, List, [], ◌∷◌}
use Rattle.std.specs.declared.cmp.Ordering.{Ordering}
use Rattle.std.specs.declared.cmp.Ordering.TheVariants.{Equal}
use Rattle.std.specs.Ordering.{nat_cmp, ordering_then}
use Rattle.ix_values.specs.Order.{text_cmp}
use Rattle.ix_tree.specs.Plain.{Plain, dead, start, done, opt, seq, star, par, par_star, or, and}
use Rattle.ix_tree.specs.Plain.{couple, any, every, sync, all, times, pair, bag, map, entry, none}
use Rattle.ix_tree.specs.Plain.{more}

-- the place of a form; the empty list stands before every other
abbrev pub place : Plain → ℕ
place dead = 0
place start = 1
place done = 2
place (opt empty x) = 3
place (seq x ended xs) = 4
place (star again xs) = 5
place (par pairs) = 6
place (par_star bags) = 7
place (or x y) = 8
place (and x y) = 9
place (couple x y) = 10
place (any common entries) = 11
place (every common entries) = 12
place (sync common entries) = 13
place (all maps) = 14
place (times bags) = 15
place (pair x y) = 16
place (bag xs) = 17
place (map entries) = 18
place (entry v x) = 19
place none = 20
place (more x xs) = 21

-- what a node has before its trees, as bytes: false before true, and an entry's value
abbrev pub key : Plain → List ℕ
key (opt true x) = 1 ∷ []
key (opt false x) = 0 ∷ []
key (star true xs) = 1 ∷ []
key (star false xs) = 0 ∷ []
key (entry v x) = v
key _ = []

-- the first tree or list in a node
abbrev pub first_part : Plain → Plain
first_part (opt empty x) = x
first_part (seq x ended xs) = x
first_part (star again xs) = xs
first_part (par pairs) = pairs
first_part (par_star bags) = bags
first_part (or x y) = x
first_part (and x y) = x
first_part (couple x y) = x
first_part (any common entries) = common
first_part (every common entries) = common
first_part (sync common entries) = common
first_part (all maps) = maps
first_part (times bags) = bags
first_part (pair x y) = x
first_part (bag xs) = xs
first_part (map entries) = entries
first_part (entry v x) = x
first_part (more x xs) = x
first_part _ = none

-- what a node has between its two parts, as bytes
abbrev pub between : Plain → List ℕ
between (seq x true xs) = 1 ∷ []
between (seq x false xs) = 0 ∷ []
between _ = []

-- the second tree or list in a node
abbrev pub second_part : Plain → Plain
second_part (seq x ended xs) = xs
second_part (or x y) = y
second_part (and x y) = y
second_part (couple x y) = y
second_part (any common entries) = entries
second_part (every common entries) = entries
second_part (sync common entries) = entries
second_part (pair x y) = y
second_part (more x xs) = xs
second_part _ = none

-- by form, then by what stands before the trees, then as the first parts compare, then by what
-- stands between the parts, then as the second parts do
abbrev pub in_turn : Plain → Plain → Ordering → Ordering → Ordering
in_turn x y first second =
    ordering_then (nat_cmp (place x) (place y))
    (ordering_then (text_cmp (key x) (key y))
    (ordering_then first (ordering_then (text_cmp (between x) (between y)) second)))

-- the order; a proper prefix of a list stands before the longer list, since the empty list stands
-- before any other
abbrev pub tree_cmp : Plain → Plain → Ordering
tree_cmp (opt empty x) y = in_turn (opt empty x) y (tree_cmp x (first_part y)) Equal
tree_cmp (seq x ended xs) y = in_turn (seq x ended xs) y (tree_cmp x (first_part y))
    (tree_cmp xs (second_part y))
tree_cmp (star again xs) y = in_turn (star again xs) y (tree_cmp xs (first_part y)) Equal
tree_cmp (par pairs) y = in_turn (par pairs) y (tree_cmp pairs (first_part y)) Equal
tree_cmp (par_star bags) y = in_turn (par_star bags) y (tree_cmp bags (first_part y)) Equal
tree_cmp (or x z) y = in_turn (or x z) y (tree_cmp x (first_part y)) (tree_cmp z (second_part y))
tree_cmp (and x z) y = in_turn (and x z) y (tree_cmp x (first_part y)) (tree_cmp z (second_part y))
tree_cmp (couple x z) y = in_turn (couple x z) y (tree_cmp x (first_part y))
    (tree_cmp z (second_part y))
tree_cmp (any common entries) y = in_turn (any common entries) y (tree_cmp common (first_part y))
    (tree_cmp entries (second_part y))
tree_cmp (every common entries) y = in_turn (every common entries) y
    (tree_cmp common (first_part y)) (tree_cmp entries (second_part y))
tree_cmp (sync common entries) y = in_turn (sync common entries) y (tree_cmp common (first_part y))
    (tree_cmp entries (second_part y))
tree_cmp (all maps) y = in_turn (all maps) y (tree_cmp maps (first_part y)) Equal
tree_cmp (times bags) y = in_turn (times bags) y (tree_cmp bags (first_part y)) Equal
tree_cmp (pair x z) y = in_turn (pair x z) y (tree_cmp x (first_part y))
    (tree_cmp z (second_part y))
tree_cmp (bag xs) y = in_turn (bag xs) y (tree_cmp xs (first_part y)) Equal
tree_cmp (map entries) y = in_turn (map entries) y (tree_cmp entries (first_part y)) Equal
tree_cmp (entry v x) y = in_turn (entry v x) y (tree_cmp x (first_part y)) Equal
tree_cmp (more x xs) y = in_turn (more x xs) y (tree_cmp x (first_part y))
    (tree_cmp xs (second_part y))
tree_cmp x y = in_turn x y Equal Equal
