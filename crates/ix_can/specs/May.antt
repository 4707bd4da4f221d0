-- Whether a word extended by an action is partial, by the tree of the word.
use Rattle.std.specs.Prelude.{ℕ, nat_lt, length, Bool, false, not, ◌&&◌, ◌||◌, List, [], ◌∷◌}
use Rattle.std.specs.Prelude.{Some, None, if◌then◌else◌}
use Rattle.std.specs.List.{list_any, list_all}
use Rattle.ix_values.specs.Order.{text_eq}
use Rattle.ix_values.specs.PlainAction.{PlainAction}
use Rattle.ix_expr.specs.Form.{Form, atom, opt, seq, star, par, par_star, or, and, couple}
use Rattle.ix_expr.specs.Form.{any, every, sync, all, times}
use Rattle.ix_expr.specs.Environment.{Environment, bind}
use Rattle.ix_tree.specs.Plain.{Plain, dead, start, opt as opt_of, seq as seq_of}
use Rattle.ix_tree.specs.Plain.{star as star_of, par as par_of, par_star as par_star_of}
use Rattle.ix_tree.specs.Plain.{or as or_of, and as and_of, couple as couple_of, any as any_of}
use Rattle.ix_tree.specs.Plain.{every as every_of, sync as sync_of, all as all_of}
use Rattle.ix_tree.specs.Plain.{times as times_of}
use Rattle.ix_tree.specs.Order.{key, first_part, second_part}
use Rattle.ix_expr.specs.Tests.{is_match, in_alphabet, values_and_outside, accepts_empty}
use Rattle.ix_can.specs.Nodes.{is_dead, items_of}

-- both sides move by what is in their alphabets, and the action is in one of them
abbrev pub both_move : Bool → Bool → Bool → Bool → Bool
both_move in_left in_right left right =
    (in_left || in_right) && ((not in_left || left) && (not in_right || right))

-- what isn't in the alphabet of a value doesn't touch it
abbrev pub moves_within : Bool → Bool → Bool
moves_within inside may_move = not inside || may_move

-- the tree of the value: that of its entry, or the common one
abbrev pub tree_at : List ℕ → Plain → List Plain → Plain
tree_at v common [] = common
tree_at v common (x ∷ entries) =
    if text_eq (key x) v then first_part x else tree_at v common entries

-- whether the word of this one action is partial
abbrev pub may_first : Form → Environment → PlainAction → Bool
may_first (atom x) e a = is_match x e a
may_first (opt y) e a = may_first y e a
may_first (seq y z) e a = may_first y e a || (accepts_empty y && may_first z e a)
may_first (star y) e a = may_first y e a
may_first (par y z) e a = may_first y e a || may_first z e a
may_first (par_star y) e a = may_first y e a
may_first (or y z) e a = may_first y e a || may_first z e a
may_first (and y z) e a = may_first y e a && may_first z e a
may_first (couple y z) e a =
    both_move (in_alphabet y e a) (in_alphabet z e a) (may_first y e a) (may_first z e a)
may_first (any p y) e a = list_any (λ v. may_first y (bind p v e) a) (values_and_outside a)
may_first (every p y) e a = list_all (λ v. may_first y (bind p v e) a) (values_and_outside a)
may_first (sync p y) e a =
    list_any (λ v. in_alphabet y (bind p v e) a) (values_and_outside a)
    && list_all (λ v. moves_within (in_alphabet y (bind p v e) a) (may_first y (bind p v e) a))
    (values_and_outside a)
may_first (all p y) e a = list_any (λ v. may_first y (bind p (Some v) e) a) a.values
may_first (times n y) e a = nat_lt 0 n && may_first y e a

-- whether the word whose tree this is, extended by the action, is partial; a tree of another form
-- tells of no word
abbrev pub may : Form → Environment → Plain → PlainAction → Bool
may (atom x) e start a = is_match x e a
may (opt y) e (opt_of empty t) a = may y e t a
may (seq y z) e (seq_of t ended rest) a =
    may y e t a || list_any (λ s. may z e s a) (items_of rest)
may (star y) e (star_of again rest) a =
    (again && may_first y e a) || list_any (λ s. may y e s a) (items_of rest)
may (par y z) e (par_of pairs) a =
    list_any (λ p. may y e (first_part p) a || may z e (second_part p) a) (items_of pairs)
may (par_star y) e (par_star_of bags) a = list_any
    (λ b. may_first y e a || list_any (λ s. may y e s a) (items_of (first_part b)))
    (items_of bags)
may (or y z) e (or_of t u) a = may y e t a || may z e u a
may (and y z) e (and_of t u) a = may y e t a && may z e u a
may (couple y z) e (couple_of t u) a =
    both_move (in_alphabet y e a) (in_alphabet z e a) (may y e t a) (may z e u a)
may (any p y) e (any_of common entries) a =
    may y (bind p None e) common a
    || (list_any (λ x. may y (bind p (Some (key x)) e) (first_part x) a) (items_of entries)
    || list_any (λ v. may y (bind p (Some v) e) (tree_at v common (items_of entries)) a) a.values)
may (every p y) e (every_of common entries) a =
    may y (bind p None e) common a
    && (list_all (λ x. may y (bind p (Some (key x)) e) (first_part x) a) (items_of entries)
    && list_all (λ v. may y (bind p (Some v) e) (tree_at v common (items_of entries)) a) a.values)
may (sync p y) e (sync_of common entries) a =
    list_any (λ v. in_alphabet y (bind p v e) a) (values_and_outside a)
    && (moves_within (in_alphabet y (bind p None e) a) (may y (bind p None e) common a)
    && (list_all
    (λ x. moves_within (in_alphabet y (bind p (Some (key x)) e) a)
    (may y (bind p (Some (key x)) e) (first_part x) a)) (items_of entries)
    && list_all
    (λ v. moves_within (in_alphabet y (bind p (Some v) e) a)
    (may y (bind p (Some v) e) (tree_at v common (items_of entries)) a)) a.values))
may (all p y) e (all_of maps) a = list_any
    (λ m. list_any
    (λ v. if is_dead (tree_at v dead (items_of (first_part m)))
    then may_first y (bind p (Some v) e) a
    else may y (bind p (Some v) e) (tree_at v dead (items_of (first_part m))) a) a.values)
    (items_of maps)
may (times n y) e (times_of bags) a = list_any
    (λ b. (nat_lt (length (items_of (first_part b))) n && may_first y e a)
    || list_any (λ s. may y e s a) (items_of (first_part b))) (items_of bags)
may x e t a = false
