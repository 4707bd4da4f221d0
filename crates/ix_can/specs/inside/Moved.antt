-- The tree of a word extended by an action, computed from the tree of the word.
use Rattle.std.specs.Prelude.{◌≡◌, ℕ, nat_lt, length, Bool, false, not, List, [], ◌∷◌, ◌++◌, map}
use Rattle.std.specs.Prelude.{flat_map, filter, Some, None, if◌then◌else◌}
use Rattle.std.specs.List.{list_any}
use Rattle.ix_words.specs.Canon.{when}
use Rattle.ix_values.specs.Order.{text_eq}
use Rattle.ix_values.specs.PlainAction.{PlainAction}
use Rattle.ix_expr.specs.Form.{Form, atom, opt, seq, star, par, par_star, or, and, couple, any}
use Rattle.ix_expr.specs.Form.{every, sync, all, times}
use Rattle.ix_expr.specs.Environment.{Environment, bind}
use Rattle.ix_tree.specs.Plain.{Plain, dead, start, done, opt as opt_of, seq as seq_of}
use Rattle.ix_tree.specs.Plain.{star as star_of, par as par_of, par_star as par_star_of}
use Rattle.ix_tree.specs.Plain.{or as or_of, and as and_of, couple as couple_of, any as any_of}
use Rattle.ix_tree.specs.Plain.{every as every_of, sync as sync_of, all as all_of}
use Rattle.ix_tree.specs.Plain.{times as times_of, pair as pair_of, bag as bag_of, map as map_of}
use Rattle.ix_tree.specs.Plain.{entry as entry_of}
use Rattle.ix_tree.specs.Order.{key, first_part, second_part}
use Rattle.ix_expr.specs.Tests.{is_match, in_alphabet}
use Rattle.ix_can.specs.Nodes.{is_dead, is_live, same_tree, is_done, is_open, listed, items_of}
use Rattle.ix_can.specs.Nodes.{set_of, put_in, live, dead_if, settled, seq_parts, settled_times}
use Rattle.ix_can.specs.TreeOf.{is_final, tree_of}
use Rattle.ix_can.specs.May.{may, tree_at}

-- each item with the others in order
abbrev pub picks : {A : Type 0} → List A → List (A × List A)
picks [] = []
picks (x ∷ xs) = (x, xs) ∷ map (λ p. (p.0, x ∷ p.1)) (picks xs)

-- the trees and one more in its place, unless that one is done
abbrev pub put_unless_done : Plain → List Plain → List Plain
put_unless_done x others = if is_done x then others else put_in x others

-- the bag of the trees and one more in its place, if that one is live; one that is done is left out
abbrev pub bag_with : Plain → List Plain → List Plain
bag_with x others = when (is_live x) (bag_of (listed (put_unless_done x others)) ∷ [])

-- the bag of the trees and one more in its place, if that one is live; one that is done stays in it
abbrev pub keep_with : Plain → List Plain → List Plain
keep_with x others = when (is_live x) (bag_of (listed (put_in x others)) ∷ [])

-- the entry of the value, where its tree differs from the common one
abbrev pub entry_with : Plain → List ℕ → Plain → List Plain
entry_with common v x = when (not (same_tree x common)) (entry_of v x ∷ [])

-- the map in which the value has this tree and all others are as before, if the tree is live
abbrev pub map_with : Plain → List ℕ → Plain → List Plain → List Plain
map_with initial v x entries =
    when (is_live x) (map_of
    (set_of (entry_with initial v x ++ filter (λ other. not (text_eq (key other) v)) entries))
    ∷ [])

-- the tree, or the initial tree in place of a dead one
abbrev pub or_initial : Plain → Plain → Plain
or_initial initial x = if is_dead x then initial else x

-- the moved tree where the action is inside, else the tree as it was
abbrev pub moved_inside : Bool → Plain → Plain → Plain
moved_inside inside moved_tree x = if inside then moved_tree else x

-- the tree of the word that is extended by the action, x being its expression and t the tree of the
-- word before; it is dead where the action may not come next
abbrev pub moved : Form → Environment → Plain → PlainAction → Plain
moved (atom x) e start a = if is_match x e a then done else dead
moved (opt y) e (opt_of empty t) a =
    dead_if (not (may (opt y) e (opt_of empty t) a)) (settled (opt_of false (moved y e t a)))
moved (seq y z) e (seq_of t ended rest) a =
    dead_if (not (may (seq y z) e (seq_of t ended rest) a)) (settled (seq_parts (moved y e t a)
    (flat_map (λ s. live (moved z e s a)) (items_of rest)
    ++ when (is_final y (moved y e t a)) (tree_of z [] [] ∷ []))))
moved (star y) e (star_of again rest) a =
    dead_if (not (may (star y) e (star_of again rest) a)) (star_of
    (list_any (is_final y)
    (flat_map (λ s. live (moved y e s a)) (items_of rest)
    ++ when again (live (moved y e (tree_of y [] []) a))))
    (set_of (filter is_open
    (flat_map (λ s. live (moved y e s a)) (items_of rest)
    ++ when again (live (moved y e (tree_of y [] []) a))))))
moved (par y z) e (par_of pairs) a =
    dead_if (not (may (par y z) e (par_of pairs) a)) (settled (par_of (set_of (flat_map (λ p.
    when (is_live (moved y e (first_part p) a))
    (pair_of (moved y e (first_part p) a) (second_part p) ∷ [])
    ++ when (is_live (moved z e (second_part p) a))
    (pair_of (first_part p) (moved z e (second_part p) a) ∷ [])) (items_of pairs)))))
moved (par_star y) e (par_star_of bags) a =
    dead_if (not (may (par_star y) e (par_star_of bags) a)) (par_star_of (set_of (flat_map (λ b.
    flat_map (λ p. bag_with (moved y e p.0 a) p.1) (picks (items_of (first_part b)))
    ++ bag_with (moved y e (tree_of y [] []) a) (items_of (first_part b))) (items_of bags))))
moved (or y z) e (or_of t u) a =
    dead_if (not (may (or y z) e (or_of t u) a)) (settled (or_of (moved y e t a) (moved z e u a)))
moved (and y z) e (and_of t u) a =
    dead_if (not (may (and y z) e (and_of t u) a))
    (settled (and_of (moved y e t a) (moved z e u a)))
moved (couple y z) e (couple_of t u) a =
    dead_if (not (may (couple y z) e (couple_of t u) a)) (settled (couple_of
    (moved_inside (in_alphabet y e a) (moved y e t a) t)
    (moved_inside (in_alphabet z e a) (moved z e u a) u)))
moved (any p y) e (any_of common entries) a =
    dead_if (not (may (any p y) e (any_of common entries) a))
    (settled (any_of (moved y (bind p None e) common a)
    (set_of (flat_map (λ x.
    entry_with (moved y (bind p None e) common a) (key x)
    (moved y (bind p (Some (key x)) e) (first_part x) a)) (items_of entries)
    ++ flat_map (λ v. entry_with (moved y (bind p None e) common a) v
    (moved y (bind p (Some v) e) (tree_at v common (items_of entries)) a)) a.values))))
moved (every p y) e (every_of common entries) a =
    dead_if (not (may (every p y) e (every_of common entries) a))
    (settled (every_of (moved y (bind p None e) common a)
    (set_of (flat_map (λ x.
    entry_with (moved y (bind p None e) common a) (key x)
    (moved y (bind p (Some (key x)) e) (first_part x) a)) (items_of entries)
    ++ flat_map (λ v. entry_with (moved y (bind p None e) common a) v
    (moved y (bind p (Some v) e) (tree_at v common (items_of entries)) a)) a.values))))
moved (sync p y) e (sync_of common entries) a =
    dead_if (not (may (sync p y) e (sync_of common entries) a)) (settled (sync_of
    (moved_inside (in_alphabet y (bind p None e) a) (moved y (bind p None e) common a) common)
    (set_of (flat_map (λ x.
    entry_with (moved_inside (in_alphabet y (bind p None e) a)
    (moved y (bind p None e) common a) common) (key x)
    (moved_inside (in_alphabet y (bind p (Some (key x)) e) a)
    (moved y (bind p (Some (key x)) e) (first_part x) a) (first_part x))) (items_of entries)
    ++ flat_map (λ v. entry_with
    (moved_inside (in_alphabet y (bind p None e) a) (moved y (bind p None e) common a) common) v
    (moved_inside (in_alphabet y (bind p (Some v) e) a)
    (moved y (bind p (Some v) e) (tree_at v common (items_of entries)) a)
    (tree_at v common (items_of entries)))) a.values))))
moved (all p y) e (all_of maps) a =
    dead_if (not (may (all p y) e (all_of maps) a)) (all_of (set_of (flat_map (λ m. flat_map (λ v.
    map_with (tree_of y [] []) v
    (moved y (bind p (Some v) e)
    (or_initial (tree_of y [] []) (tree_at v dead (items_of (first_part m)))) a)
    (items_of (first_part m))) a.values) (items_of maps))))
moved (times n y) e (times_of bags) a =
    dead_if (not (may (times n y) e (times_of bags) a)) (settled_times n (set_of (flat_map (λ b.
    flat_map (λ p. keep_with (moved y e p.0 a) p.1) (picks (items_of (first_part b)))
    ++ when (nat_lt (length (items_of (first_part b))) n)
    (keep_with (moved y e (tree_of y [] []) a) (items_of (first_part b)))) (items_of bags))))
moved x e t a = dead

-- the tree of a word moves to the tree of the word with one more action
abbrev pub Moves : Form → Environment → PlainAction → Type 0
Moves x e a = (w : List PlainAction) → moved x e (tree_of x e w) a ≡ tree_of x e (w ++ a ∷ [])
