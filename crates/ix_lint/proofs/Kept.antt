-- In an expression without `*` and `#` the tree of a word with an action is never that of the empty word.
use Rattle.std.proofs.Common.{◌≡◌, ◌≢◌, inl, inr, ℕ, suc, ◌==◌, eq-eqb, Bool, true, false, not, cond, ◌&&◌, ◌||◌, List, [], ◌∷◌, ◌++◌, Some, None, map, flat_map, filter, length, refl, sym, ap, ◌∙◌, subst, true≢false, if◌then◌else◌}
use Rattle.std.specs.List.{list_any, list_all}
use Rattle.std.proofs.lemmas.List.{length-map}
use Rattle.ix_words.specs.Each.{Member, here}
use Rattle.ix_words.specs.Parts.{part}
use Rattle.ix_words.specs.Canon.{when, cuts, splits, give_start}
use Rattle.ix_words.proofs.Each.{Member-left, Member-either}
use Rattle.ix_words.proofs.Canon.{Member-cases, Member-when, Member-map, map-Member, Member-flat_map, flat_map-Member}
use Rattle.ix_values.specs.Order.{text_eq}
use Rattle.ix_values.specs.lemmas.Order.{text_eq-decides}
use Rattle.ix_values.specs.PlainAction.{PlainAction, Word, values_of}
use Rattle.ix_expr.specs.Form.{Form, atom, opt, seq, star, par, par_star, or, and, couple, any, every, sync, all, times}
use Rattle.ix_expr.specs.Environment.{Environment, bind}
use Rattle.ix_tree.specs.Plain.{Plain, dead, start, done, opt as opt_of, par as par_of, or as or_of, and as and_of, couple as couple_of, any as any_of, every as every_of, sync as sync_of, all as all_of, times as times_of, pair as pair_of, bag as bag_of, map as map_of, entry as entry_of, none}
use Rattle.ix_expr.specs.Tests.{is_match, in_alphabet, values_and_outside}
use Rattle.ix_can.specs.Ways.{is_empty, numbers_below, sharings, parts_below, ownings, lists_as_long}
use Rattle.ix_can.specs.Nodes.{live, is_dead, is_done, is_live, is_open, is_spent, settled, dead_if, done_if, unless_done, same_tree, listed, items_of, set_of, sorted, only_bag_done, seq_parts, has_dead_entry}
use Rattle.ix_can.specs.TreeOf.{is_final, tree_of, entries_of, live_pair, whole_bag, live_map}
use Rattle.ix_words.proofs.Deciding.{any_says, itself}
use Rattle.ix_can.proofs.Lists.{filter-Member, when_not}
use Rattle.ix_can.proofs.Nodes.{same_is, entry_among}
use Rattle.ix_can.proofs.Entries.{set_items}
use Rattle.ix_can.proofs.Spent.{open_not_done}
use Rattle.ix_can.proofs.SpentTell.{begins_open}
use Rattle.ix_can.proofs.Sharings.{empty_parts}
use Rattle.ix_can.proofs.TimesTell.{bag_count}
use Rattle.ix_can.proofs.Agreeing.{empty_tree}
use Rattle.ix_words.specs.Words.{Owned}
use Rattle.ix_words.proofs.Each.{Each-members}
use Rattle.ix_words.proofs.Canon.{when-Member}
use Rattle.ix_words.proofs.Owners.{Owned-pairs}
use Rattle.ix_expr.specs.FormFaults.{Fits}
use Rattle.ix_expr.specs.Meaning.{InAlphabet, IsPartial}
use Rattle.ix_expr.specs.Laws.{EachAtomNames}
use Rattle.ix_expr.proofs.LawsOfMeaning.{owner-value, named-value, bind-own}
use Rattle.ix_tree.specs.Order.{first_part, second_part}
use Rattle.ix_can.specs.Laws.{EachAllNames}
use Rattle.ix_can.proofs.Lists.{all_from}
use Rattle.ix_can.proofs.Naming.{fits_name}
use Rattle.ix_can.proofs.TreesTell.{tree_tells}
use Rattle.ix_expr.proofs.Testing.{alphabet_says}
use Rattle.ix_can.proofs.Ways.{ownings_from}
use Rattle.ix_can.proofs.NamedOutside.{none_inside}
use Rattle.ix_can.proofs.Spent.{node_is}
use Rattle.ix_lint.specs.Nodes.{forms, is_iteration}
use Rattle.ix_lint.specs.Names.{each_names}
use Rattle.ix_lint.specs.Keeps.{has_iteration, is_kept}
use Rattle.ix_lint.specs.Laws.{EachOwnerStays, ValueStays}
use Rattle.ix_lint.proofs.Lists.{both, neither, not_true, each-atom}

-- Nodes that are open

open_is : (b d : Bool) (t : Plain) → is_open (dead_if b (done_if d t)) ≡ true → (b ≡ false) × (dead_if b (done_if d t) ≡ t)
open_is true d t h = absurd (true≢false (sym h))
open_is false true t h = absurd (true≢false (sym h))
open_is false false t h = (refl, refl)

-- a node that is the same as an open one isn't dead and has the same parts
nodes_same : (b d c f : Bool) (t u : Plain) → is_open (dead_if c (done_if f u)) ≡ true → dead_if b (done_if d t) ≡ dead_if c (done_if f u) → (b ≡ false) × (t ≡ u)
nodes_same b d c f t u o e =
    let p = open_is c f u o in
    let q = open_is b d t (ap is_open e ∙ o) in
    (q.0, sym q.1 ∙ e ∙ p.1)

open_undone : (u : Plain) → is_open u ≡ true → unless_done u ≡ u
open_undone u o = ap (λ b. if b then dead else u) (open_not_done u o)

undone : (t u : Plain) → is_open u ≡ true → unless_done t ≡ unless_done u → t ≡ u
undone t u o e = chosen (is_done t) (e ∙ open_undone u o)
  where
    chosen : (b : Bool) → (if b then dead else t) ≡ u → t ≡ u
    chosen true h = absurd (true≢false (sym o ∙ ap is_open (sym h)))
    chosen false h = h

-- Trees of words with an action

-- the tree of no word with an action is that of the empty word
abbrev pub Changes : Form → Type 0
Changes x = (e : Environment) (a : PlainAction) (w : Word) → tree_of x e (a ∷ w) ≢ tree_of x e []

only_empty : (x : Form) → Changes x → (e : Environment) (u : Word) → tree_of x e u ≡ tree_of x e [] → u ≡ []
only_empty x c e [] h = refl
only_empty x c e (a ∷ u) h = absurd (c e a u h)

-- what passes the test isn't left out
filter_empty : (test : PlainAction → Bool) (a : PlainAction) (w : Word) → filter test (a ∷ w) ≡ [] → test a ≡ false
filter_empty test a w h = chosen (test a) h
  where
    chosen : (b : Bool) → cond b (a ∷ filter test w) (filter test w) ≡ [] → b ≡ false
    chosen true g = absurd (cc)
    chosen false g = refl

-- the first action passes, so there is one
filter_full : (x : Form) → Changes x → (e : Environment) (test : PlainAction → Bool) (a : PlainAction) (w : Word) → test a ≡ true → tree_of x e (filter test (a ∷ w)) ≢ tree_of x e []
filter_full x c e test a w t h = true≢false (sym t ∙ filter_empty test a w (only_empty x c e (filter test (a ∷ w)) h))

atom_changes : (b : Bool) → (if b then done else dead) ≢ start
atom_changes true h = absurd (cc)
atom_changes false h = absurd (cc)

-- Pairs

split_end : (a : PlainAction) (w : Word) (s : Word × Word) → Member s (splits (a ∷ w)) → s.0 ≡ [] → s.1 ≡ [] → ⊥
split_end a w s m h k =
    let g = Member-flat_map (give_start a) (splits w) m in
    elim (Member-cases g.2) [
      | inl e ↦ let n : a ∷ g.0.0 ≡ [] = sym (ap (λ q. q.0) e) ∙ h in absurd (cc)
      | inr r ↦ elim (Member-cases r) [
        | inl e ↦ let n : a ∷ g.0.1 ≡ [] = sym (ap (λ q. q.1) e) ∙ k in absurd (cc)
        | inr q ↦ elim q [ ]
      ]
    ]

some_member : {A : Type 0} (xs : List A) → is_empty xs ≡ false → (x : A) × Member x xs
some_member [] e = absurd (true≢false e)
some_member (x ∷ xs) e = (x, here)

-- a set that is another's has the members of the other list
from_set : (xs ys : List Plain) {x : Plain} → set_of xs ≡ set_of ys → Member x xs → Member x ys
from_set xs ys {x} e m = (set_items ys).to x (subst (λ s. Member x (items_of s)) e ((set_items xs).from x m))

one_made : (b : Bool) (q x : Plain) → Member q (when b (x ∷ [])) → q ≡ x
one_made b q x m = elim (Member-cases (Member-when b (x ∷ []) m).1) [ inl e ↦ e | inr n ↦ elim n [ ] ]

one_made_alone : (b : Bool) (q x : Plain) → Member q (when b (x ∷ []) ++ []) → q ≡ x
one_made_alone b q x m = elim (Member-either (when b (x ∷ [])) [] m) [ inl l ↦ one_made b q x l | inr r ↦ elim r [ ] ]

par_changes : (y z : Form) → Changes y → Changes z → Changes (par y z)
par_changes y z c d e a w h =
    let make : Word × Word → List Plain = λ s. live_pair (tree_of y e s.0) (tree_of z e s.1) in
    let pairs : List Plain = flat_map make (splits (a ∷ w)) in
    let first : List Plain = flat_map make (splits []) in
    let same = nodes_same (is_empty pairs) (is_spent (par_of (set_of pairs))) (is_empty first) (is_spent (par_of (set_of first))) (par_of (set_of pairs)) (par_of (set_of first)) (begins_open (par y z) e) h in
    let sets : set_of pairs ≡ set_of first = cc in
    let q = some_member pairs same.0 in
    let s = Member-flat_map make (splits (a ∷ w)) q.1 in
    let made = one_made (is_live (tree_of y e s.0.0) && is_live (tree_of z e s.0.1)) q.0 (pair_of (tree_of y e s.0.0) (tree_of z e s.0.1)) s.2 in
    let begun = one_made_alone (is_live (tree_of y e []) && is_live (tree_of z e [])) q.0 (pair_of (tree_of y e []) (tree_of z e [])) (from_set pairs first sets q.1) in
    let parts : pair_of (tree_of y e s.0.0) (tree_of z e s.0.1) ≡ pair_of (tree_of y e []) (tree_of z e []) = sym made ∙ begun in
    let left : tree_of y e s.0.0 ≡ tree_of y e [] = cc in
    let right : tree_of z e s.0.1 ≡ tree_of z e [] = cc in
    split_end a w s.0 s.1 (only_empty y c e s.0.0 left) (only_empty z d e s.0.1 right)

-- Entries

no_entry : (xs : List Plain) {x : Plain} → set_of xs ≡ set_of [] → Member x xs → ⊥
no_entry xs e m = elim (from_set xs [] e m) [ ]

differs : (t u : Plain) → t ≢ u → same_tree t u ≡ false
differs t u n = chosen (same_tree t u) (same_is t u)
  where
    chosen : (b : Bool) → (b ≡ true → t ≡ u) → b ≡ false
    chosen true s = absurd (n (s refl))
    chosen false s = refl

-- the value whose alphabet has the first action has an entry beside a common tree that is that of the empty word
pub value_changes : (p : List ℕ) (y : Form) → Changes y → (e : Environment) (a : PlainAction) (w : Word) (v : List ℕ) (common : Plain) → common ≡ tree_of y (bind p None e) [] → in_alphabet y (bind p (Some v) e) a ≡ true →
    same_tree (tree_of y (bind p (Some v) e) (filter (in_alphabet y (bind p (Some v) e)) (a ∷ w))) common ≡ false
value_changes p y c e a w v common h i =
    differs (tree_of y (bind p (Some v) e) (filter (in_alphabet y (bind p (Some v) e)) (a ∷ w))) common
    (λ k. filter_full y c (bind p (Some v) e) (in_alphabet y (bind p (Some v) e)) a w i (k ∙ h ∙ empty_tree y (bind p None e) (bind p (Some v) e)))

sync_changes : (p : List ℕ) (y : Form) → Changes y → Changes (sync p y)
sync_changes p y c e a w h =
    let out : Environment = bind p None e in
    let inside : Word → Bool = list_all (λ b. list_any (λ v. in_alphabet y (bind p v e) b) (values_and_outside b)) in
    let tree : Word → List ℕ → Plain = λ u v. tree_of y (bind p (Some v) e) (filter (in_alphabet y (bind p (Some v) e)) u) in
    let common : Plain = tree_of y out (filter (in_alphabet y out) (a ∷ w)) in
    let entries : List Plain = entries_of common (tree (a ∷ w)) (values_of (a ∷ w)) in
    let begun : Plain = tree_of y out [] in
    let same = nodes_same (not (inside (a ∷ w)) || (is_dead common || has_dead_entry entries)) (is_spent (sync_of common (set_of entries))) (is_dead begun || false) (is_spent (sync_of begun none)) (sync_of common (set_of entries)) (sync_of begun none) (begins_open (sync p y) e) h in
    let commons : common ≡ begun = cc in
    let sets : set_of entries ≡ set_of [] = cc in
    let none_outside : in_alphabet y out a ≡ false = filter_empty (in_alphabet y out) a w (only_empty y c out (filter (in_alphabet y out) (a ∷ w)) commons) in
    let all_in = not_false_is (inside (a ∷ w)) (neither (not (inside (a ∷ w))) (is_dead common || has_dead_entry entries) same.0).0 in
    let first_in = (both (list_any (λ v. in_alphabet y (bind p v e) a) (values_and_outside a)) (inside w) all_in).0 in
    let some_in : list_any (λ v. in_alphabet y (bind p v e) a) (map Some a.values) ≡ true = sym (ap (λ b. b || list_any (λ v. in_alphabet y (bind p v e) a) (map Some a.values)) none_outside) ∙ first_in in
    let which = (any_says (λ v. in_alphabet y (bind p v e) a) (map Some a.values)).0 some_in in
    let value = Member-map Some a.values which.among in
    let passes : in_alphabet y (bind p (Some value.0) e) a ≡ true = subst (λ o. in_alphabet y (bind p o e) a ≡ true) value.2 which.passes in
    no_entry entries sets (entry_among common (tree (a ∷ w)) (values_of (a ∷ w)) (Member-left value.1 (values_of w)) (value_changes p y c e a w value.0 common commons passes))
  where
    not_false_is : (b : Bool) → not b ≡ false → b ≡ true
    not_false_is true k = refl
    not_false_is false k = absurd (true≢false k)

-- Maps

-- an owner has a part that isn't empty
owner_part : (v : List ℕ) (owners : List (List ℕ)) (w : Word) → length owners ≡ length w → Member v owners → part (text_eq v) owners w ≢ []
owner_part v [] w l m h = elim m [ ]
owner_part v (o ∷ owners) [] l m h = absurd (cc)
owner_part v (o ∷ owners) (a ∷ w) l m h = chosen (text_eq v o) (text_eq-decides v o).1 (λ k. owner_part v owners w (cc) k) h
  where
    chosen : (b : Bool) → (v ≡ o → b ≡ true) → (Member v owners → part (text_eq v) owners w ≢ []) → cond b (a ∷ part (text_eq v) owners w) (part (text_eq v) owners w) ≡ [] → ⊥
    chosen true same later g = absurd (cc)
    chosen false same later g = elim (Member-cases m) [
      | inl e ↦ true≢false (sym (same e))
      | inr n ↦ later n g
    ]

full_changes : (x : Form) → Changes x → (e : Environment) (u : Word) → u ≢ [] → tree_of x e u ≢ tree_of x e []
full_changes x c e [] n h = n refl
full_changes x c e (a ∷ u) n h = c e a u h

-- so its tree in the map isn't that of the empty word
pub owner_changes : (p : List ℕ) (y : Form) → Changes y → (e : Environment) (owners : List (List ℕ)) (w : Word) (v : List ℕ) → length owners ≡ length w → Member v owners → same_tree (tree_of y (bind p (Some v) e) (part (text_eq v) owners w)) (tree_of y e []) ≡ false
owner_changes p y c e owners w v l m =
    differs (tree_of y (bind p (Some v) e) (part (text_eq v) owners w)) (tree_of y e [])
    (λ k. full_changes y c (bind p (Some v) e) (part (text_eq v) owners w) (owner_part v owners w l m) (k ∙ empty_tree y e (bind p (Some v) e)))

own_long : (w : Word) (owners : List (List ℕ)) → Member owners (ownings w) → length owners ≡ length w
own_long [] owners m = elim (Member-cases m) [ inl e ↦ ap length e | inr n ↦ elim n [ ] ]
own_long (a ∷ w) owners m =
    let g = Member-flat_map (λ rest. map (λ v. v ∷ rest) a.values) (ownings w) m in
    let k = Member-map (λ v. v ∷ g.0) a.values g.2 in
    ap length k.2 ∙ ap suc (own_long w g.0 g.1)

some_owner : (a : PlainAction) (w : Word) (owners : List (List ℕ)) → length owners ≡ length (a ∷ w) → (v : List ℕ) × Member v owners
some_owner a w [] l = absurd (cc)
some_owner a w (v ∷ owners) l = (v, here)

all_changes : (p : List ℕ) (y : Form) → Changes y → Changes (all p y)
all_changes p y c e a w h =
    let initial : Plain = tree_of y e [] in
    let tree : Word → List (List ℕ) → List ℕ → Plain = λ u owners v. tree_of y (bind p (Some v) e) (part (text_eq v) owners u) in
    let make : Word → List (List ℕ) → List Plain = λ u owners. live_map initial (tree u owners) owners in
    let maps : List Plain = flat_map (make (a ∷ w)) (ownings (a ∷ w)) in
    let first : List Plain = flat_map (make []) (ownings []) in
    let same = nodes_same (is_empty maps) false false false (all_of (set_of maps)) (all_of (set_of first)) (begins_open (all p y) e) h in
    let sets : set_of maps ≡ set_of first = cc in
    let q = some_member maps same.0 in
    let s = Member-flat_map (make (a ∷ w)) (ownings (a ∷ w)) q.1 in
    let owners : List (List ℕ) = s.0 in
    let entries : List Plain = entries_of initial (tree (a ∷ w) owners) owners in
    let made = one_made (list_all (λ v. is_live (tree (a ∷ w) owners v)) owners) q.0 (map_of (set_of entries)) s.2 in
    let begun = one_made_alone true q.0 (map_of none) (from_set maps first sets q.1) in
    let alike : map_of (set_of entries) ≡ map_of none = sym made ∙ begun in
    let empty : set_of entries ≡ set_of [] = cc in
    let long : length owners ≡ length (a ∷ w) = own_long (a ∷ w) owners s.1 in
    let v = some_owner a w owners long in
    no_entry entries empty (entry_among initial (tree (a ∷ w) owners) owners v.1 (owner_changes p y c e owners (a ∷ w) v.0 long v.1))

-- Bags

full_part : (n : ℕ) (owners : List ℕ) (a : PlainAction) (w : Word) → Member owners (sharings n (a ∷ w)) → parts_below n owners (a ∷ w) ≢ []
full_part n owners a w m h =
    let g = Member-flat_map (λ rest. map (λ k. k ∷ rest) (numbers_below n)) (lists_as_long (numbers_below n) w) m in
    let k = Member-map (λ j. j ∷ g.0) (numbers_below n) g.2 in
    let piece : Word = part (λ owner. k.0 == owner) owners (a ∷ w) in
    let full : not (is_empty piece) ≡ true = ap (λ os. not (is_empty (part (λ owner. k.0 == owner) os (a ∷ w)))) k.2 ∙ ap (λ b. not (is_empty (cond b (a ∷ part (λ owner. k.0 == owner) g.0 w) (part (λ owner. k.0 == owner) g.0 w)))) (eq-eqb k.0 k.0 refl) in
    let kept = filter-Member (λ u. not (is_empty u)) (map-Member (λ number. part (λ owner. number == owner) owners (a ∷ w)) k.1) full in
    elim (subst (λ us. Member piece us) h kept) [ ]

no_items : {A : Type 0} (xs : List A) → length xs ≡ 0 → xs ≡ []
no_items [] e = refl
no_items (x ∷ xs) e = absurd (cc)

times_changes : (n : ℕ) (y : Form) → Changes (times n y)
times_changes n y e a w h =
    let make : Word → List ℕ → List Plain = λ u owners. whole_bag (map (tree_of y e) (parts_below n owners u)) in
    let bags : List Plain = flat_map (make (a ∷ w)) (sharings n (a ∷ w)) in
    let first : List Plain = flat_map (make []) (sharings {A = PlainAction} n []) in
    let same = nodes_same (is_empty bags) (only_bag_done n (items_of (set_of bags))) (is_empty first) (only_bag_done n (items_of (set_of first))) (times_of (set_of bags)) (times_of (set_of first)) (begins_open (times n y) e) h in
    let sets : set_of bags ≡ set_of first = cc in
    let q = some_member bags same.0 in
    let s = Member-flat_map (make (a ∷ w)) (sharings n (a ∷ w)) q.1 in
    let trees : List Plain = map (tree_of y e) (parts_below n s.0 (a ∷ w)) in
    let made = one_made (list_all is_live trees) q.0 (bag_of (listed (sorted trees))) s.2 in
    let none_begun : Member q.0 (whole_bag (map (tree_of y e) []) ++ []) = subst (λ ps. Member q.0 (whole_bag (map (tree_of y e) ps) ++ [])) (empty_parts n) (from_set bags first sets q.1) in
    let begun = one_made_alone true q.0 (bag_of none) none_begun in
    let alike : bag_of (listed (sorted trees)) ≡ bag_of none = sym made ∙ begun in
    let empty : listed (sorted trees) ≡ none = cc in
    let count : length trees ≡ 0 = sym (bag_count trees) ∙ ap (λ l. length (items_of l)) empty in
    let short : length (parts_below n s.0 (a ∷ w)) ≡ 0 = sym (length-map (parts_below n s.0 (a ∷ w)) (tree_of y e)) ∙ count in
    full_part n s.0 a w s.1 (no_items (parts_below n s.0 (a ∷ w)) short)

-- All forms

first_none : (y z : Form) → list_any is_iteration (forms y ++ forms z) ≡ false → (has_iteration y ≡ false) × (has_iteration z ≡ false)
first_none y z h = parted (forms y) h
  where
    parted : (xs : List Form) → list_any is_iteration (xs ++ forms z) ≡ false → (list_any is_iteration xs ≡ false) × (list_any is_iteration (forms z) ≡ false)
    parted [] k = (refl, k)
    parted (x ∷ xs) k =
        let g = neither (is_iteration x) (list_any is_iteration (xs ++ forms z)) k in
        let i = parted xs g.1 in
        ((λ j. g.0 j || i.0 j), i.1)

couple_changes : (y z : Form) → Changes y → Changes z → Changes (couple y z)
couple_changes y z c d e a w h =
    let inside : Word → Bool = list_all (λ b. in_alphabet y e b || in_alphabet z e b) in
    let t : Plain = tree_of y e (filter (in_alphabet y e) (a ∷ w)) in
    let u : Plain = tree_of z e (filter (in_alphabet z e) (a ∷ w)) in
    let t' : Plain = tree_of y e [] in
    let u' : Plain = tree_of z e [] in
    let same = nodes_same (not (inside (a ∷ w)) || (is_dead t || is_dead u)) (is_spent (couple_of t u)) (is_dead t' || is_dead u') (is_spent (couple_of t' u')) (couple_of t u) (couple_of t' u') (begins_open (couple y z) e) h in
    let left : t ≡ t' = cc in
    let right : u ≡ u' = cc in
    let not_left : in_alphabet y e a ≡ false = filter_empty (in_alphabet y e) a w (only_empty y c e (filter (in_alphabet y e) (a ∷ w)) left) in
    let not_right : in_alphabet z e a ≡ false = filter_empty (in_alphabet z e) a w (only_empty z d e (filter (in_alphabet z e) (a ∷ w)) right) in
    let out : inside (a ∷ w) ≡ false = (λ i. (not_left i || not_right i) && inside w) in
    true≢false (sym (ap not out) ∙ (neither (not (inside (a ∷ w))) (is_dead t || is_dead u) same.0).0)

opt_apart : (t u : Plain) → opt_of false t ≢ opt_of true u
opt_apart t u h = absurd (cc)

seq_changes : (y z : Form) → Changes y → Changes (seq y z)
seq_changes y z c e a w h =
    let t : Plain = tree_of y e (a ∷ w) in
    let u : Plain = tree_of y e [] in
    let rest : Word → List Plain = λ v. flat_map (λ k. when (is_final y (tree_of y e k.0)) (live (tree_of z e k.1))) (cuts v) in
    let same = nodes_same (is_dead t && is_empty (rest (a ∷ w))) (is_spent (seq_parts t (rest (a ∷ w)))) (is_dead u && is_empty (rest [])) (is_spent (seq_parts u (rest []))) (seq_parts t (rest (a ∷ w))) (seq_parts u (rest [])) (begins_open (seq y z) e) h in
    let first : unless_done t ≡ unless_done u = cc in
    c e a w (undone t u (begins_open y e) first)

pub changes : (x : Form) → has_iteration x ≡ false → Changes x
changes (atom x) n e a [] h = atom_changes (is_match x e a) h
changes (atom x) n e a (b ∷ w) h = absurd (cc)
changes (opt y) n e a w h =
    let t : Plain = tree_of y e (a ∷ w) in
    let u : Plain = tree_of y e [] in
    let same = nodes_same (is_dead t) (is_spent (opt_of false t)) (is_dead u) (is_spent (opt_of true u)) (opt_of false t) (opt_of true u) (begins_open (opt y) e) h in
    absurd (opt_apart t u same.1)
changes (seq y z) n e a w h = seq_changes y z (changes y (first_none y z n).0) e a w h
changes (star y) n e a w h = absurd (true≢false n)
changes (par y z) n e a w h = let k = first_none y z n in par_changes y z (changes y k.0) (changes z k.1) e a w h
changes (par_star y) n e a w h = absurd (true≢false n)
changes (or y z) n e a w h =
    let t : Plain = tree_of y e (a ∷ w) in
    let u : Plain = tree_of z e (a ∷ w) in
    let t' : Plain = tree_of y e [] in
    let u' : Plain = tree_of z e [] in
    let same = nodes_same (is_dead t && is_dead u) (is_spent (or_of t u)) (is_dead t' && is_dead u') (is_spent (or_of t' u')) (or_of t u) (or_of t' u') (begins_open (or y z) e) h in
    let left : t ≡ t' = cc in
    changes y (first_none y z n).0 e a w left
changes (and y z) n e a w h =
    let t : Plain = tree_of y e (a ∷ w) in
    let u : Plain = tree_of z e (a ∷ w) in
    let t' : Plain = tree_of y e [] in
    let u' : Plain = tree_of z e [] in
    let same = nodes_same (is_dead t || is_dead u) (is_spent (and_of t u)) (is_dead t' || is_dead u') (is_spent (and_of t' u')) (and_of t u) (and_of t' u') (begins_open (and y z) e) h in
    let left : t ≡ t' = cc in
    changes y (first_none y z n).0 e a w left
changes (couple y z) n e a w h = let k = first_none y z n in couple_changes y z (changes y k.0) (changes z k.1) e a w h
changes (any p y) n e a w h =
    let t : Plain = tree_of y (bind p None e) (a ∷ w) in
    let u : Plain = tree_of y (bind p None e) [] in
    let entries : List Plain = entries_of t (λ v. tree_of y (bind p (Some v) e) (a ∷ w)) (values_of (a ∷ w)) in
    let same = nodes_same (is_dead t && is_empty entries) (is_spent (any_of t (set_of entries))) (is_dead u && true) (is_spent (any_of u none)) (any_of t (set_of entries)) (any_of u none) (begins_open (any p y) e) h in
    let common : t ≡ u = cc in
    changes y n (bind p None e) a w common
changes (every p y) n e a w h =
    let t : Plain = tree_of y (bind p None e) (a ∷ w) in
    let u : Plain = tree_of y (bind p None e) [] in
    let entries : List Plain = entries_of t (λ v. tree_of y (bind p (Some v) e) (a ∷ w)) (values_of (a ∷ w)) in
    let same = nodes_same (is_dead t || has_dead_entry entries) (is_spent (every_of t (set_of entries))) (is_dead u || false) (is_spent (every_of u none)) (every_of t (set_of entries)) (every_of u none) (begins_open (every p y) e) h in
    let common : t ≡ u = cc in
    changes y n (bind p None e) a w common
changes (sync p y) n e a w h = sync_changes p y (changes y n) e a w h
changes (all p y) n e a w h = all_changes p y (changes y n) e a w h
changes (times k y) n e a w h = times_changes k y e a w h

-- In the trees

listed_member : (xs : List Plain) {x : Plain} → Member x xs → Member x (items_of (set_of xs))
listed_member xs {x} m = (set_items xs).from x m

some_item : {A : Type 0} (xs : List A) {x : A} → Member x xs → is_empty xs ≡ false
some_item [] m = elim m [ ]
some_item (x ∷ xs) m = refl

-- of an `all`: the map of owners whose parts are all partial is among its maps, and each owner has an entry in it
pub owners-stay : (p : List ℕ) (y : Form) (e : Environment) (w : Word) (owners : List (List ℕ)) → Fits (all p y) e → is_kept (all p y) ≡ true → length owners ≡ length w → ((v : List ℕ) → IsPartial y (bind p (Some v) e) (part (text_eq v) owners w)) → EachOwnerStays p y e w owners
owners-stay p y e w owners fits k long partial =
    let names : EachAtomNames p y × EachAllNames y = fits_name (all p y) e fits in
    let tree : List ℕ → Plain = λ v. tree_of y (bind p (Some v) e) (part (text_eq v) owners w) in
    let initial : Plain = tree_of y e [] in
    let entries : List Plain = entries_of initial tree owners in
    let make : List (List ℕ) → List Plain = λ os. live_map initial (λ v. tree_of y (bind p (Some v) e) (part (text_eq v) os w)) os in
    let maps : List Plain = flat_map make (ownings w) in
    let each_live : list_all (λ v. is_live (tree v)) owners ≡ true = all_from (λ v. is_live (tree v)) (Each-members owners (λ v m. (when_not (is_dead (tree v)) itself).1 ((tree_tells y names.1 (bind p (Some v) e) (part (text_eq v) owners w)).partial.1 (partial v)))) in
    let owned : Owned text_eq (λ v. IsPartial y (bind p (Some v) e)) w = record { owners = owners; as_long = long; each_has = partial } in
    let way : Member owners (ownings w) = ownings_from (Owned-pairs (λ v. (text_eq-decides v v).1 refl) (λ v u q. owner-value p y e u v names.0 q) w owned) in
    let among : Member (map_of (set_of entries)) maps = flat_map-Member make way (when-Member each_live here) in
    record {
      entries = set_of entries;
      among = subst (λ b. Member (map_of (set_of entries)) (items_of (first_part (dead_if b (all_of (set_of maps)))))) (sym (some_item maps among)) (listed_member maps among);
      each_has = λ v m. listed_member entries (entry_among initial tree owners m (owner_changes p y (changes y (not_true (has_iteration y) k)) e owners w v long m));
    }

alive : (b : Bool) (t : Plain) → is_dead (dead_if b t) ≡ false → b ≡ false
alive true t h = absurd (true≢false h)
alive false t h = refl

none_passes : (test : PlainAction → Bool) → ((a : PlainAction) → test a ≡ false) → (w : Word) → filter test w ≡ []
none_passes test n [] = refl
none_passes test n (a ∷ w) = ap (λ b. cond b (a ∷ filter test w) (filter test w)) (n a) ∙ none_passes test n w

-- of a `sync`: a value in whose alphabet the word has an action has an entry
pub values-stay : (p : List ℕ) (y : Form) (e : Environment) (w : Word) (v : List ℕ) (a : PlainAction) → Fits (sync p y) e → is_kept (sync p y) ≡ true → IsPartial (sync p y) e w → Member a w → InAlphabet y (bind p (Some v) e) a → ValueStays p y e w v
values-stay p y e w v a fits k partial m i =
    let kept = both (each_names p y) (not (has_iteration y)) k in
    let names : EachAtomNames p y = each-atom p y kept.0 in
    let out : Environment = bind p None e in
    let test : List ℕ → PlainAction → Bool = λ u. in_alphabet y (bind p (Some u) e) in
    let tree : List ℕ → Plain = λ u. tree_of y (bind p (Some u) e) (filter (test u) w) in
    let common : Plain = tree_of y out (filter (in_alphabet y out) w) in
    let entries : List Plain = entries_of common tree (values_of w) in
    let node : Plain = sync_of common (set_of entries) in
    let inside : Bool = list_all (λ b. list_any (λ u. in_alphabet y (bind p u e) b) (values_and_outside b)) w in
    let dies : Bool = not inside || (is_dead common || has_dead_entry entries) in
    let commons : common ≡ tree_of y out [] = ap (tree_of y out) (none_passes (in_alphabet y out) (λ b. none_inside p b y out names (bind-own p None e)) w) in
    let passes : test v a ≡ true = (alphabet_says y (bind p (Some v) e) a).1 i in
    let full : filter (test v) w ≢ [] = λ h. let n : Member a [] = subst (λ u. Member a u) h (filter-Member (test v) m passes) in elim n [ ] in
    let apart : same_tree (tree v) common ≡ false = differs (tree v) common (λ h. full_changes y (changes y (not_true (has_iteration y) kept.1)) (bind p (Some v) e) (filter (test v) w) full (h ∙ commons ∙ empty_tree y out (bind p (Some v) e))) in
    let value : Member v (values_of w) = flat_map-Member (λ b. b.values) m (named-value y (bind p (Some v) e) p v a names (bind-own p (Some v) e) i) in
    let among : Member (entry_of v (tree v)) (items_of (set_of entries)) = listed_member entries (entry_among common tree (values_of w) value apart) in
    let lives : dies ≡ false = alive dies (settled node) ((tree_tells (sync p y) (fits_name (sync p y) e fits) e w).partial.1 partial) in
    let unspent : is_spent node ≡ false = and_no (is_done common) (is_empty (items_of (set_of entries))) (some_item (items_of (set_of entries)) among) in
    subst (λ t. Member (entry_of v (tree v)) (items_of (second_part t))) (sym (node_is dies node lives unspent)) among
  where
    and_no : (b c : Bool) → c ≡ false → b && c ≡ false
    and_no true c h = h
    and_no false c h = refl
