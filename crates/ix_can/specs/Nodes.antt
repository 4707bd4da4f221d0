-- The nodes of trees: how each is made of its parts, and when it is dead or done instead.
use Rattle.std.specs.Prelude.{ℕ, ◌==◌, length, Bool, false, not, ◌&&◌, ◌||◌, List, [], ◌∷◌}
use Rattle.std.specs.Prelude.{if◌then◌else◌, filter}
use Rattle.std.specs.List.{list_any, list_all}
use Rattle.std.specs.Ordering.{is_eq, is_gt}
use Rattle.ix_words.specs.Canon.{canon, when}
use Rattle.ix_tree.specs.Plain.{Plain, dead, done, opt, seq, star, par, par_star, or, and, couple}
use Rattle.ix_tree.specs.Plain.{any, every, sync, all, times}
use Rattle.ix_tree.specs.Order.{tree_cmp, first_part, second_part}
use Rattle.ix_can.specs.Ways.{is_empty}
pub use Rattle.ix_tree.specs.Plain.{is_dead, is_done, listed, items_of}

-- whether the tree is live
abbrev pub is_live : Plain → Bool
is_live x = not (is_dead x)

-- whether no action moves the tree, as it is dead or done
abbrev pub is_ended : Plain → Bool
is_ended x = is_dead x || is_done x

-- whether the tree is live and other than done
abbrev pub is_open : Plain → Bool
is_open x = not (is_ended x)

-- whether two trees are the same
abbrev pub same_tree : Plain → Plain → Bool
same_tree x y = is_eq (tree_cmp x y)

-- the strictly ascending list, each item once
abbrev pub set_of : List Plain → Plain
set_of xs = listed (canon tree_cmp xs)

-- x before the first tree above it
abbrev pub put_in : Plain → List Plain → List Plain
put_in x [] = x ∷ []
put_in x (y ∷ ys) = if is_gt (tree_cmp x y) then y ∷ put_in x ys else x ∷ y ∷ ys

-- the trees in ascending order, repeats kept
abbrev pub sorted : List Plain → List Plain
sorted [] = []
sorted (x ∷ xs) = put_in x (sorted xs)

-- the tree, if it is live
abbrev pub live : Plain → List Plain
live x = when (is_live x) (x ∷ [])

-- dead where the test holds
abbrev pub dead_if : Bool → Plain → Plain
dead_if test x = if test then dead else x

-- done where the test holds
abbrev pub done_if : Bool → Plain → Plain
done_if test x = if test then done else x

-- the tree, with dead in place of done
abbrev pub unless_done : Plain → Plain
unless_done x = if is_done x then dead else x

-- whether there is one pair alone, of two trees that are done
abbrev pub only_pair_done : List Plain → Bool
only_pair_done (p ∷ []) = is_done (first_part p) && is_done (second_part p)
only_pair_done pairs = false

-- whether there is one bag alone, and in it n trees, of which there are some, that are all done
abbrev pub only_bag_done : ℕ → List Plain → Bool
only_bag_done n (b ∷ []) = not (is_empty (items_of (first_part b)))
    && ((length (items_of (first_part b)) == n) && list_all is_done (items_of (first_part b)))
only_bag_done n bags = false

-- whether a live node is spent: its word is complete, and no action moves it; that of `times` is
-- told by its number too
abbrev pub is_spent : Plain → Bool
is_spent (opt empty x) = is_done x
is_spent (seq x ended alternatives) = is_dead x && is_empty (items_of alternatives)
is_spent (par pairs) = only_pair_done (items_of pairs)
is_spent (or x y) = is_ended x && is_ended y
is_spent (and x y) = is_done x && is_done y
is_spent (couple x y) = is_done x && is_done y
is_spent (any common entries) = is_ended common
    && list_all (λ x. is_ended (first_part x)) (items_of entries)
is_spent (every common entries) = is_done common && is_empty (items_of entries)
is_spent (sync common entries) = is_done common && is_empty (items_of entries)
is_spent x = false

-- done where the node is spent
abbrev pub settled : Plain → Plain
settled x = done_if (is_spent x) x

abbrev pub opt_node : Bool → Plain → Plain
opt_node empty x = dead_if (is_dead x) (settled (opt empty x))

-- a first part with dead in place of done, whether an alternative for the second is done, and the
-- other alternatives
abbrev pub seq_parts : Plain → List Plain → Plain
seq_parts x alternatives = seq (unless_done x) (list_any is_done alternatives)
    (set_of (filter is_open alternatives))

-- a first part, and the live alternatives for the second
abbrev pub seq_node : Plain → List Plain → Plain
seq_node x alternatives = dead_if (is_dead x && is_empty alternatives)
    (settled (seq_parts x alternatives))

-- the live alternatives for the last piece, of which those that are done aren't listed
abbrev pub star_node : Bool → List Plain → Plain
star_node again alternatives = dead_if (not again && is_empty alternatives)
    (star again (set_of (filter is_open alternatives)))

abbrev pub par_node : List Plain → Plain
par_node pairs = dead_if (is_empty pairs) (settled (par (set_of pairs)))

abbrev pub par_star_node : List Plain → Plain
par_star_node bags = dead_if (is_empty bags) (par_star (set_of bags))

abbrev pub or_node : Plain → Plain → Plain
or_node x y = dead_if (is_dead x && is_dead y) (settled (or x y))

abbrev pub and_node : Plain → Plain → Plain
and_node x y = dead_if (is_dead x || is_dead y) (settled (and x y))

-- inside: each action is in the alphabet of one of the two
abbrev pub couple_node : Bool → Plain → Plain → Plain
couple_node inside x y = dead_if (not inside || (is_dead x || is_dead y)) (settled (couple x y))

abbrev pub any_node : Plain → List Plain → Plain
any_node common entries = dead_if (is_dead common && is_empty entries)
    (settled (any common (set_of entries)))

-- whether some entry's tree is dead
abbrev pub has_dead_entry : List Plain → Bool
has_dead_entry entries = list_any (λ x. is_dead (first_part x)) entries

abbrev pub every_node : Plain → List Plain → Plain
every_node common entries = dead_if (is_dead common || has_dead_entry entries)
    (settled (every common (set_of entries)))

-- inside: each action is in the alphabet for some value
abbrev pub sync_node : Bool → Plain → List Plain → Plain
sync_node inside common entries =
    dead_if (not inside || (is_dead common || has_dead_entry entries))
    (settled (sync common (set_of entries)))

abbrev pub all_node : List Plain → Plain
all_node maps = dead_if (is_empty maps) (all (set_of maps))

-- the node of n runs side by side, and done where it is spent
abbrev pub settled_times : ℕ → Plain → Plain
settled_times n bags = done_if (only_bag_done n (items_of bags)) (times bags)

abbrev pub times_node : ℕ → List Plain → Plain
times_node n bags = dead_if (is_empty bags) (settled_times n (set_of bags))
