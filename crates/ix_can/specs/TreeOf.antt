-- The tree of a word: what the engine keeps, said of the whole word at once and without any step.
use Rattle.std.specs.Prelude.{true, false, ℕ, ◌==◌, length, Bool, not, ◌&&◌, ◌||◌, List, [], ◌∷◌}
use Rattle.std.specs.Prelude.{map, flat_map}
use Rattle.std.specs.Prelude.{filter, Some, None, if◌then◌else◌}
use Rattle.std.specs.List.{list_any, list_all}
use Rattle.ix_values.specs.Order.{text_eq}
use Rattle.ix_values.specs.PlainAction.{Word, values_of}
use Rattle.ix_words.specs.Parts.{part}
use Rattle.ix_words.specs.Canon.{when, cuts, splits}
use Rattle.ix_expr.specs.Form.{PlainAtom, Form, atom, opt, seq, star, par, par_star, or, and}
use Rattle.ix_expr.specs.Form.{couple, any, every, sync, all, times}
use Rattle.ix_expr.specs.Environment.{Environment, bind}
use Rattle.ix_tree.specs.Plain.{Plain, dead, start, done, opt as opt_of, seq as seq_of}
use Rattle.ix_tree.specs.Plain.{star as star_of, par as par_of, par_star as par_star_of}
use Rattle.ix_tree.specs.Plain.{or as or_of, and as and_of, couple as couple_of, any as any_of}
use Rattle.ix_tree.specs.Plain.{every as every_of, sync as sync_of, all as all_of}
use Rattle.ix_tree.specs.Plain.{times as times_of, pair as pair_of}
use Rattle.ix_tree.specs.Plain.{bag as bag_of, map as map_of, entry as entry_of}
use Rattle.ix_tree.specs.Order.{first_part, second_part}
use Rattle.ix_tree.specs.Size.{size_of}
use Rattle.ix_expr.specs.Tests.{is_match, in_alphabet, values_and_outside, accepts_empty}
use Rattle.ix_can.specs.Ways.{is_empty, is_concatenation, numberings, nonempty_parts}
use Rattle.ix_can.specs.Ways.{ownings, sharings, parts_below}
use Rattle.ix_can.specs.Nodes.{is_live, is_open, same_tree, listed, items_of, set_of, sorted, live}
use Rattle.ix_can.specs.Nodes.{opt_node, seq_node, star_node, par_node, par_star_node, or_node}
use Rattle.ix_can.specs.Nodes.{and_node, couple_node, any_node, every_node, sync_node, all_node}
use Rattle.ix_can.specs.Nodes.{times_node}

-- whether the word whose tree this is is complete in the expression; a tree of another form that
-- isn't done tells of no word
abbrev pub is_final : Form → Plain → Bool
is_final x done = true
is_final (opt y) (opt_of empty t) = empty || is_final y t
is_final (seq y z) (seq_of t ended rest) = ended || list_any (is_final z) (items_of rest)
is_final (star y) (star_of again rest) = again
is_final (par y z) (par_of pairs) = list_any
    (λ p. is_final y (first_part p) && is_final z (second_part p)) (items_of pairs)
is_final (par_star y) (par_star_of bags) = list_any
    (λ b. list_all (is_final y) (items_of (first_part b))) (items_of bags)
is_final (or y z) (or_of t u) = is_final y t || is_final z u
is_final (and y z) (and_of t u) = is_final y t && is_final z u
is_final (couple y z) (couple_of t u) = is_final y t && is_final z u
is_final (any p y) (any_of common entries) = is_final y common
    || list_any (λ x. is_final y (first_part x)) (items_of entries)
is_final (every p y) (every_of common entries) = is_final y common
    && list_all (λ x. is_final y (first_part x)) (items_of entries)
is_final (sync p y) (sync_of common entries) = is_final y common
    && list_all (λ x. is_final y (first_part x)) (items_of entries)
is_final (all p y) (all_of maps) = accepts_empty y
    && list_any (λ m. list_all (λ x. is_final y (first_part x)) (items_of (first_part m)))
    (items_of maps)
is_final (times n y) (times_of bags) = list_any
    (λ b. list_all (is_final y) (items_of (first_part b))
    && ((length (items_of (first_part b)) == n) || accepts_empty y)) (items_of bags)
is_final x t = false

-- start for the empty word, done for one matching action
abbrev pub atom_tree : PlainAtom → Environment → Word → Plain
atom_tree x e [] = start
atom_tree x e (a ∷ []) = if is_match x e a then done else dead
atom_tree x e (a ∷ b ∷ w) = dead

-- the pair, if both trees are live
abbrev pub live_pair : Plain → Plain → List Plain
live_pair x y = when (is_live x && is_live y) (pair_of x y ∷ [])

-- the bag of the trees that aren't done, if all are live
abbrev pub live_bag : List Plain → List Plain
live_bag xs = when (list_all is_live xs) (bag_of (listed (sorted (filter is_open xs))) ∷ [])

-- the bag of the trees, those that are done among them, if all are live
abbrev pub whole_bag : List Plain → List Plain
whole_bag xs = when (list_all is_live xs) (bag_of (listed (sorted xs)) ∷ [])

-- for each value its tree, where it differs from the common tree
abbrev pub entries_of : Plain → (List ℕ → Plain) → List (List ℕ) → List Plain
entries_of common tree values = flat_map
    (λ v. when (not (same_tree (tree v) common)) (entry_of v (tree v) ∷ [])) values

-- the map of the owners to the trees of their parts, if all are live
abbrev pub live_map : Plain → (List ℕ → Plain) → List (List ℕ) → List Plain
live_map initial tree owners =
    when (list_all (λ v. is_live (tree v)) owners)
    (map_of (set_of (entries_of initial tree owners)) ∷ [])

-- the tree of the word w under the environment e
abbrev pub tree_of : Form → Environment → Word → Plain
tree_of (atom x) e w = atom_tree x e w
tree_of (opt y) e w = opt_node (is_empty w) (tree_of y e w)
tree_of (seq y z) e w =
    seq_node (tree_of y e w)
    (flat_map (λ c. when (is_final y (tree_of y e c.0)) (live (tree_of z e c.1))) (cuts w))
tree_of (star y) e w =
    star_node (is_concatenation (λ u. is_final y (tree_of y e u)) w)
    (flat_map
    (λ c. when (not (is_empty c.1) && is_concatenation (λ u. is_final y (tree_of y e u)) c.0)
    (live (tree_of y e c.1))) (cuts w))
tree_of (par y z) e w = par_node
    (flat_map (λ s. live_pair (tree_of y e s.0) (tree_of z e s.1)) (splits w))
tree_of (par_star y) e w =
    par_star_node
    (flat_map (λ owners. live_bag (map (tree_of y e) (nonempty_parts owners w))) (numberings w))
tree_of (or y z) e w = or_node (tree_of y e w) (tree_of z e w)
tree_of (and y z) e w = and_node (tree_of y e w) (tree_of z e w)
tree_of (couple y z) e w =
    couple_node (list_all (λ a. in_alphabet y e a || in_alphabet z e a) w)
    (tree_of y e (filter (in_alphabet y e) w)) (tree_of z e (filter (in_alphabet z e) w))
tree_of (any p y) e w =
    any_node (tree_of y (bind p None e) w)
    (entries_of (tree_of y (bind p None e) w) (λ v. tree_of y (bind p (Some v) e) w) (values_of w))
tree_of (every p y) e w =
    every_node (tree_of y (bind p None e) w)
    (entries_of (tree_of y (bind p None e) w) (λ v. tree_of y (bind p (Some v) e) w) (values_of w))
tree_of (sync p y) e w =
    sync_node
    (list_all (λ a. list_any (λ v. in_alphabet y (bind p v e) a) (values_and_outside a)) w)
    (tree_of y (bind p None e) (filter (in_alphabet y (bind p None e)) w))
    (entries_of (tree_of y (bind p None e) (filter (in_alphabet y (bind p None e)) w))
    (λ v. tree_of y (bind p (Some v) e) (filter (in_alphabet y (bind p (Some v) e)) w))
    (values_of w))
tree_of (all p y) e w =
    all_node
    (flat_map
    (λ owners. live_map (tree_of y e [])
    (λ v. tree_of y (bind p (Some v) e) (part (text_eq v) owners w)) owners)
    (ownings w))
tree_of (times n y) e w =
    times_node n
    (flat_map (λ owners. whole_bag (map (tree_of y e) (parts_below n owners w))) (sharings n w))

-- the Size of the tree of a word of the whole expression
abbrev pub tree_size : Form → Word → ℕ
tree_size x w = size_of (tree_of x [] w)
