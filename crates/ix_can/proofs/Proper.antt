-- The trees of words are proper: lists of alternatives ascend strictly, bags rise, and no entry has the common tree.
use Rattle.std.proofs.Common.{◌≡◌, inl, inr, filter, ℕ, Bool, true, false, not, ◌&&◌, List, [], ◌∷◌, Some, None, map, flat_map, refl, sym, ap, ◌∙◌, subst, true≢false, Ordering, Less, Equal, Greater, if◌then◌else◌}
use Rattle.std.specs.List.{list_all}
use Rattle.std.specs.Cmp.{upto, tied_itself}
use Rattle.std.specs.Ordering.{is_gt, ordering_reverse, ordering_then}
use Rattle.ix_words.specs.Each.{Each, no_item, item, Member}
use Rattle.ix_words.specs.Parts.{part}
use Rattle.ix_words.specs.Canon.{Ascending, ascending_end, below, canon, when, cuts, splits}
use Rattle.ix_words.proofs.Each.{Each-head, Each-tail, Each-weaker, Each-member, Each-members, Each-both}
use Rattle.ix_words.proofs.Canon.{Member-cases, Member-when, Member-flat_map, canon-ascending, canon-members}
use Rattle.ix_values.specs.Order.{text_eq, text_cmp}
use Rattle.ix_values.specs.lemmas.Order.{text_cmp-same}
use Rattle.ix_values.specs.PlainAction.{Word, values_of}
use Rattle.ix_expr.specs.Form.{Form, atom, opt, seq, star, par, par_star, or, and, couple, any, every, sync, all, times}
use Rattle.ix_expr.specs.Environment.{Environment, bind}
use Rattle.ix_tree.specs.Plain.{Plain, dead, done, none, opt as opt_tree, seq as seq_tree, star as star_tree, par as par_tree, par_star as par_star_tree, or as or_tree, and as and_tree, couple as couple_tree, any as any_tree, every as every_tree, sync as sync_tree, all as all_tree, times as times_tree, pair as pair_of, bag as bag_of, map as map_of, entry}
use Rattle.ix_tree.specs.Order.{key, tree_cmp, first_part, second_part}
use Rattle.ix_tree.specs.lemmas.TreeOrder.{tree_order}
use Rattle.ix_expr.specs.Tests.{in_alphabet}
use Rattle.ix_can.specs.Ways.{is_empty, is_concatenation, numberings, nonempty_parts, ownings, sharings, parts_below}
use Rattle.ix_can.specs.Nodes.{is_dead, is_done, is_live, is_open, same_tree, listed, items_of, set_of, put_in, sorted, live, dead_if, done_if, is_spent, settled}
use Rattle.ix_can.specs.TreeOf.{is_final, tree_of, live_pair, live_bag, whole_bag, entries_of, live_map}
use Rattle.ix_can.specs.Laws.{EachOnce, ProperEntries, IsRising, IsProper}
use Rattle.ix_can.proofs.Lists.{Member-filter}
use Rattle.ix_can.proofs.Nodes.{items_listed, same_from, entry_is}
use Rattle.ix_can.proofs.Agreeing.{empty_tree}

-- Lists

-- what is listed under a test is the one item
one_listed : {A : Type 0} (b : Bool) (a : A) {c : A} → Member c (when b (a ∷ [])) → c ≡ a
one_listed b a m = elim (Member-cases (Member-when b (a ∷ []) m).1) [ inl e ↦ e | inr n ↦ elim n [ ] ]

-- each item of a comprehension has what each item that is made has
each_made : {A B : Type 0} {G : B → Type 0} (make : A → List B) (ws : List A) → ((a : A) (b : B) → Member b (make a) → G b) → Each G (flat_map make ws)
each_made make ws has = Each-members (flat_map make ws) (λ b m. let k = Member-flat_map make ws m in has k.0 b k.2)

each_set : {G : Plain → Type 0} (xs : List Plain) → Each G xs → Each G (items_of (set_of xs))
each_set {G} xs h =
    subst (Each G) (sym (items_listed (canon tree_cmp xs)))
    (Each-members (canon tree_cmp xs) (λ a m. Each-member h ((canon-members tree_order xs).to a m)))

set_ascends : (xs : List Plain) → Ascending tree_cmp (items_of (set_of xs))
set_ascends xs = subst (Ascending tree_cmp) (sym (items_listed (canon tree_cmp xs))) (canon-ascending tree_order xs)

each_once : {G : Plain → Type 0} (xs : List Plain) → Each G xs → EachOnce G (items_of (set_of xs))
each_once xs h = record { ascending = set_ascends xs; each = each_set xs h }

nothing_once : {G : Plain → Type 0} → EachOnce G []
nothing_once = record { ascending = ascending_end; each = no_item }

no_entries : {G : Plain → Type 0} {common : Plain} → ProperEntries G common []
no_entries = record { ascending = ascending_end; differ = no_item; each = no_item }

-- Entries

-- entries with one tree for each value that stand in order stand in the order of their values
value_below : (tree : List ℕ → Plain) (u v : List ℕ) → tree_cmp (entry u (tree u)) (entry v (tree v)) ≡ Less → text_cmp u v ≡ Less
value_below tree u v e = by_values (text_cmp u v) refl e
  where
    by_values : (o : Ordering) → text_cmp u v ≡ o → ordering_then o (ordering_then (tree_cmp (tree u) (tree v)) Equal) ≡ Less → o ≡ Less
    by_values Less c h = refl
    by_values Greater c h = cc
    by_values Equal c h =
        let same : u ≡ v = text_cmp-same u v c in
        let level : tree_cmp (tree u) (tree v) ≡ Equal = subst (λ x. tree_cmp (tree u) (tree x) ≡ Equal) same (tied_itself tree_order.total (tree u)) in
        let turned : Equal ≡ Less = ap (λ (o : Ordering). ordering_then o Equal) (sym level) ∙ h in
        cc

-- an entry of the tree of its value
abbrev IsEntry : (List ℕ → Plain) → Plain → Type 0
IsEntry tree x = x ≡ entry (key x) (tree (key x))

by_value : (tree : List ℕ → Plain) (xs : List Plain) → Each (IsEntry tree) xs → Ascending tree_cmp xs → Ascending (λ x y. text_cmp (key x) (key y)) xs
by_value tree [] h ascending_end = ascending_end
by_value tree (x ∷ xs) h (below g a) =
    below
    (Each-weaker (λ y k. value_below tree (key x) (key y) ((λ i. tree_cmp (sym (Each-head h) i) (sym k.0 i)) ∙ k.1)) (Each-both (Each-tail h) g))
    (by_value tree xs (Each-tail h) a)

proper_entries : {G : Plain → Type 0} (common : Plain) (tree : List ℕ → Plain) (values : List (List ℕ)) → ((v : List ℕ) → G (tree v)) → ProperEntries G common (items_of (set_of (entries_of common tree values)))
proper_entries {G} common tree values has = record {
  ascending = by_value tree (items_of (set_of entries)) (each_set entries (of_each (λ v d x e. e ∙ ap (λ u. entry u (tree u)) (sym (ap key e))))) (set_ascends entries);
  differ = each_set entries (of_each (λ v d x e same. true≢false (sym (same_from (tree v) common (sym (ap first_part e) ∙ same)) ∙ d)));
  each = each_set entries (of_each (λ v d x e. subst G (sym (ap first_part e)) (has v)));
}
  where
    entries : List Plain
    entries = entries_of common tree values

    of_each : {H : Plain → Type 0} → ((v : List ℕ) → same_tree (tree v) common ≡ false → (x : Plain) → x ≡ entry v (tree v) → H x) → Each H (entries_of common tree values)
    of_each g = Each-members (entries_of common tree values) (λ x m. let k = entry_is common tree values m in g k.way k.has.0 x k.has.1)

-- Bags

each_put : {G : Plain → Type 0} (x : Plain) (xs : List Plain) → G x → Each G xs → Each G (put_in x xs)
each_put x [] g h = item g no_item
each_put {G} x (y ∷ ys) g h = chosen (is_gt (tree_cmp x y)) (each_put x ys g (Each-tail h))
  where
    chosen : (b : Bool) → Each G (put_in x ys) → Each G (if b then y ∷ put_in x ys else x ∷ y ∷ ys)
    chosen true k = item (Each-head h) k
    chosen false k = item g h

each_sorted : {G : Plain → Type 0} {xs : List Plain} → Each G xs → Each G (sorted xs)
each_sorted no_item = no_item
each_sorted (item {a} {w} g h) = each_put a (sorted w) g (each_sorted h)

not_above : (o : Ordering) → is_gt o ≡ true → is_gt (ordering_reverse o) ≡ false
not_above Less e = absurd (true≢false (sym e))
not_above Equal e = refl
not_above Greater e = refl

put_rises : (x : Plain) (xs : List Plain) → IsRising xs → IsRising (put_in x xs)
put_rises x [] h = (no_item, tt)
put_rises x (y ∷ ys) h = chosen (is_gt (tree_cmp x y)) refl (put_rises x ys h.1)
  where
    chosen : (b : Bool) → is_gt (tree_cmp x y) ≡ b → IsRising (put_in x ys) → IsRising (if b then y ∷ put_in x ys else x ∷ y ∷ ys)
    chosen true e k = (each_put x ys (ap is_gt (tree_order.total.antisymm y x) ∙ not_above (tree_cmp x y) e) h.0, k)
    chosen false e k = (item e (Each-weaker (λ z g. upto tree_order.total x y z e g) h.0), h)

pub sorted_rises : (xs : List Plain) → IsRising (sorted xs)
sorted_rises [] = tt
sorted_rises (x ∷ xs) = put_rises x (sorted xs) (sorted_rises xs)

-- Trees

proper_none : (x : Form) → IsProper x none
proper_none (atom x) = tt
proper_none (opt y) = proper_none y
proper_none (seq y z) = (proper_none y, nothing_once)
proper_none (star y) = nothing_once
proper_none (par y z) = nothing_once
proper_none (par_star y) = nothing_once
proper_none (or y z) = (proper_none y, proper_none z)
proper_none (and y z) = (proper_none y, proper_none z)
proper_none (couple y z) = (proper_none y, proper_none z)
proper_none (any p y) = (proper_none y, no_entries)
proper_none (every p y) = (proper_none y, no_entries)
proper_none (sync p y) = (proper_none y, no_entries)
proper_none (all p y) = nothing_once
proper_none (times n y) = nothing_once

proper_dead : (x : Form) → IsProper x dead
proper_dead (atom x) = tt
proper_dead (opt y) = proper_none y
proper_dead (seq y z) = (proper_none y, nothing_once)
proper_dead (star y) = nothing_once
proper_dead (par y z) = nothing_once
proper_dead (par_star y) = nothing_once
proper_dead (or y z) = (proper_none y, proper_none z)
proper_dead (and y z) = (proper_none y, proper_none z)
proper_dead (couple y z) = (proper_none y, proper_none z)
proper_dead (any p y) = (proper_none y, no_entries)
proper_dead (every p y) = (proper_none y, no_entries)
proper_dead (sync p y) = (proper_none y, no_entries)
proper_dead (all p y) = nothing_once
proper_dead (times n y) = nothing_once

proper_done : (x : Form) → IsProper x done
proper_done (atom x) = tt
proper_done (opt y) = proper_none y
proper_done (seq y z) = (proper_none y, nothing_once)
proper_done (star y) = nothing_once
proper_done (par y z) = nothing_once
proper_done (par_star y) = nothing_once
proper_done (or y z) = (proper_none y, proper_none z)
proper_done (and y z) = (proper_none y, proper_none z)
proper_done (couple y z) = (proper_none y, proper_none z)
proper_done (any p y) = (proper_none y, no_entries)
proper_done (every p y) = (proper_none y, no_entries)
proper_done (sync p y) = (proper_none y, no_entries)
proper_done (all p y) = nothing_once
proper_done (times n y) = nothing_once

-- a tree that is done where a test holds, or dead in place of done
proper_unless : (x : Form) (b : Bool) (t : Plain) → IsProper x t → IsProper x (done_if b t) × IsProper x (dead_if b t)
proper_unless x true t h = (proper_done x, proper_dead x)
proper_unless x false t h = (h, h)

-- a node that is dead where one test holds, and done where the other does
proper_either : (x : Form) (b d : Bool) (t : Plain) → IsProper x t → IsProper x (dead_if b (done_if d t))
proper_either x true d t h = proper_dead x
proper_either x false d t h = (proper_unless x d t h).0

-- so with a node that is done where it is spent
proper_if : (x : Form) (b : Bool) (t : Plain) → IsProper x t → IsProper x (dead_if b (settled t))
proper_if x b t h = proper_either x b (is_spent t) t h

-- what is kept of a list
each_kept : {A : Type 0} {G : A → Type 0} (test : A → Bool) (xs : List A) → Each G xs → Each G (filter test xs)
each_kept test xs h = Each-members (filter test xs) (λ x m. Each-member h (Member-filter test xs m).0)

-- the lists of the nodes
each_live : (G : Plain → Type 0) (b : Bool) (t : Plain) → G t → (x : Plain) → Member x (when b (live t)) → G x
each_live G b t g x m = subst G (sym (one_listed (is_live t) t (Member-when b (live t) m).1)) g

each_bag : (y : Form) (trees : List Plain) → Each (IsProper y) trees → (b : Plain) → Member b (live_bag trees) → IsRising (items_of (first_part b)) × Each (IsProper y) (items_of (first_part b))
each_bag y trees h b m =
    let kept : List Plain = filter is_open trees in
    let is_bag : items_of (first_part b) ≡ sorted kept = ap (λ x. items_of (first_part x)) (one_listed (list_all is_live trees) (bag_of (listed (sorted kept))) m) ∙ items_listed (sorted kept) in
    (subst IsRising (sym is_bag) (sorted_rises kept), subst (Each (IsProper y)) (sym is_bag) (each_sorted (each_kept is_open trees h)))

each_whole : (y : Form) (trees : List Plain) → Each (IsProper y) trees → (b : Plain) → Member b (whole_bag trees) → IsRising (items_of (first_part b)) × Each (IsProper y) (items_of (first_part b))
each_whole y trees h b m =
    let is_bag : items_of (first_part b) ≡ sorted trees = ap (λ x. items_of (first_part x)) (one_listed (list_all is_live trees) (bag_of (listed (sorted trees))) m) ∙ items_listed (sorted trees) in
    (subst IsRising (sym is_bag) (sorted_rises trees), subst (Each (IsProper y)) (sym is_bag) (each_sorted h))

each_pair : (y z : Form) (t u : Plain) → IsProper y t → IsProper z u → (p : Plain) → Member p (live_pair t u) → IsProper y (first_part p) × IsProper z (second_part p)
each_pair y z t u g h p m =
    subst (λ x. IsProper y (first_part x) × IsProper z (second_part x)) (sym (one_listed (is_live t && is_live u) (pair_of t u) m)) (g, h)

each_map : (y : Form) (initial : Plain) (tree : List ℕ → Plain) (owners : List (List ℕ)) → ((v : List ℕ) → IsProper y (tree v)) → tree_of y [] [] ≡ initial → (m : Plain) → Member m (live_map initial tree owners) → ProperEntries (IsProper y) (tree_of y [] []) (items_of (first_part m))
each_map y initial tree owners has same m n =
    subst (λ x. ProperEntries (IsProper y) (tree_of y [] []) (items_of (first_part x)))
    (sym (one_listed (list_all (λ v. is_live (tree v)) owners) (map_of (set_of (entries_of initial tree owners))) n))
    (subst (λ c. ProperEntries (IsProper y) c (items_of (set_of (entries_of initial tree owners)))) (sym same) (proper_entries initial tree owners has))

each_tree : (y : Form) (e : Environment) (ws : List Word) → ((u : Word) → IsProper y (tree_of y e u)) → Each (IsProper y) (map (tree_of y e) ws)
each_tree y e [] has = no_item
each_tree y e (u ∷ ws) has = item (has u) (each_tree y e ws has)

pub proper : (x : Form) (e : Environment) (w : Word) → IsProper x (tree_of x e w)
proper (atom x) e w = tt
proper (opt y) e w = proper_if (opt y) (is_dead (tree_of y e w)) (opt_tree (is_empty w) (tree_of y e w)) (proper y e w)
proper (seq y z) e w =
    proper_if (seq y z) _ (seq_tree _ _ _)
    ((proper_unless y (is_done (tree_of y e w)) (tree_of y e w) (proper y e w)).1, each_once _ (each_kept is_open _ (each_made (λ c. when (is_final y (tree_of y e c.0)) (live (tree_of z e c.1))) (cuts w) (λ c x m. each_live (IsProper z) (is_final y (tree_of y e c.0)) (tree_of z e c.1) (proper z e c.1) x m))))
proper (star y) e w =
    proper_if (star y) _ (star_tree _ _)
    (each_once _ (each_kept is_open _ (each_made (λ c. when (not (is_empty c.1) && is_concatenation (λ u. is_final y (tree_of y e u)) c.0) (live (tree_of y e c.1))) (cuts w) (λ c x m. each_live (IsProper y) (not (is_empty c.1) && is_concatenation (λ u. is_final y (tree_of y e u)) c.0) (tree_of y e c.1) (proper y e c.1) x m))))
proper (par y z) e w =
    proper_if (par y z) _ (par_tree _)
    (each_once _ (each_made (λ s. live_pair (tree_of y e s.0) (tree_of z e s.1)) (splits w) (λ s p m. each_pair y z (tree_of y e s.0) (tree_of z e s.1) (proper y e s.0) (proper z e s.1) p m)))
proper (par_star y) e w =
    proper_if (par_star y) _ (par_star_tree _)
    (each_once _ (each_made (λ owners. live_bag (map (tree_of y e) (nonempty_parts owners w))) (numberings w) (λ owners b m. each_bag y (map (tree_of y e) (nonempty_parts owners w)) (each_tree y e (nonempty_parts owners w) (proper y e)) b m)))
proper (or y z) e w = proper_if (or y z) _ (or_tree _ _) (proper y e w, proper z e w)
proper (and y z) e w = proper_if (and y z) _ (and_tree _ _) (proper y e w, proper z e w)
proper (couple y z) e w = proper_if (couple y z) _ (couple_tree _ _) (proper y e (filter (in_alphabet y e) w), proper z e (filter (in_alphabet z e) w))
proper (any p y) e w =
    proper_if (any p y) _ (any_tree _ _)
    (proper y (bind p None e) w, proper_entries (tree_of y (bind p None e) w) (λ v. tree_of y (bind p (Some v) e) w) (values_of w) (λ v. proper y (bind p (Some v) e) w))
proper (every p y) e w =
    proper_if (every p y) _ (every_tree _ _)
    (proper y (bind p None e) w, proper_entries (tree_of y (bind p None e) w) (λ v. tree_of y (bind p (Some v) e) w) (values_of w) (λ v. proper y (bind p (Some v) e) w))
proper (sync p y) e w =
    proper_if (sync p y) _ (sync_tree _ _)
    (proper y (bind p None e) (filter (in_alphabet y (bind p None e)) w), proper_entries (tree_of y (bind p None e) (filter (in_alphabet y (bind p None e)) w)) (λ v. tree_of y (bind p (Some v) e) (filter (in_alphabet y (bind p (Some v) e)) w)) (values_of w) (λ v. proper y (bind p (Some v) e) (filter (in_alphabet y (bind p (Some v) e)) w)))
proper (all p y) e w =
    proper_if (all p y) _ (all_tree _)
    (each_once _ (each_made (λ owners. live_map (tree_of y e []) (λ v. tree_of y (bind p (Some v) e) (part (text_eq v) owners w)) owners) (ownings w) (λ owners m n. each_map y (tree_of y e []) (λ v. tree_of y (bind p (Some v) e) (part (text_eq v) owners w)) owners (λ v. proper y (bind p (Some v) e) (part (text_eq v) owners w)) (empty_tree y [] e) m n)))
proper (times n y) e w =
    proper_either (times n y) _ _ (times_tree _)
    (each_once _ (each_made (λ owners. whole_bag (map (tree_of y e) (parts_below n owners w))) (sharings n w) (λ owners b m. each_whole y (map (tree_of y e) (parts_below n owners w)) (each_tree y e (parts_below n owners w) (proper y e)) b m)))
