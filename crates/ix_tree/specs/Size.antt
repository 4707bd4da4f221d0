-- Size, the number of nodes that a tree counts as.
use Rattle.std.specs.Prelude.{ℕ, ◌+◌}
use Rattle.ix_tree.specs.Plain.{Plain, dead, start, done, opt, seq, star, par, par_star, or, and}
use Rattle.ix_tree.specs.Plain.{couple, any, every, sync, all, times, pair, bag, map, entry, none}
use Rattle.ix_tree.specs.Plain.{more}

-- a node counts 1 and its parts; a pair, a bag, a map and an entry count 1 and their trees; a list
-- counts its items
abbrev pub size_of : Plain → ℕ
size_of dead = 1
size_of start = 1
size_of done = 1
size_of (opt empty x) = 1 + size_of x
size_of (seq x ended xs) = 1 + size_of x + size_of xs
size_of (star again xs) = 1 + size_of xs
size_of (par pairs) = 1 + size_of pairs
size_of (par_star bags) = 1 + size_of bags
size_of (or x y) = 1 + size_of x + size_of y
size_of (and x y) = 1 + size_of x + size_of y
size_of (couple x y) = 1 + size_of x + size_of y
size_of (any common entries) = 1 + size_of common + size_of entries
size_of (every common entries) = 1 + size_of common + size_of entries
size_of (sync common entries) = 1 + size_of common + size_of entries
size_of (all maps) = 1 + size_of maps
size_of (times bags) = 1 + size_of bags
size_of (pair x y) = 1 + size_of x + size_of y
size_of (bag xs) = 1 + size_of xs
size_of (map entries) = 1 + size_of entries
size_of (entry v x) = 1 + size_of x
size_of none = 0
size_of (more x xs) = size_of x + size_of xs
