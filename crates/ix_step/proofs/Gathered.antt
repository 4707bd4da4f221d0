-- Lists into which trees are put one by one: what they hold at last, and that they only grow.
use Rattle.std.proofs.Common.{◌||◌, inl, inr, not, ◌≡◌, ℕ, ◌<◌, ◌≤◌, ◌+◌, Bool, true, false, List, [], ◌∷◌, ◌++◌, map, take, drop, get_or, length, add-one, drop-cons, Result, Ok, Err, refl, sym, ap, ◌∙◌, subst, arith, append_assoc, append-nil, map-id, Ordering, Equal}
use Rattle.ix_words.specs.Each.{Member, here, there}
use Rattle.ix_words.specs.Canon.{put_once, canon, when}
use Rattle.std.specs.List.{list_any, sum_by}
use Rattle.ix_tree.proofs.PlainLists.{size_of-listed}
use Rattle.std.proofs.lemmas.List.{drop_all, take_more}
use Rattle.ix_words.proofs.Canon.{Member-cases, canon-end, canon-members, by_order-has}
use Rattle.ix_can.specs.Nodes.{is_live, is_ended, is_open}
use Rattle.ix_can.proofs.Spent.{Kind, is_the_dead, is_the_done, stays_open, kind, open_live}
use Rattle.ix_can.proofs.Lists.{any_same}
use Rattle.ix_tree.proofs.Alternatives.{insert_key-put_once, Member-HasItem, weight_of-list}
use Rattle.ix_alts.specs.inside.Alternatives.{Alternatives, HasItem}
use Rattle.ix_tree.specs.Plain.{Plain, listed, is_dead}
use Rattle.ix_tree.specs.Order.{tree_cmp}
use Rattle.ix_tree.specs.Size.{size_of}
use Rattle.ix_tree.specs.lemmas.TreeOrder.{tree_order, tree_cmp-same}
use Rattle.ix_step.specs.inside.Makes.{put_all, Gathers, PutsItem}
use Rattle.ix_step.specs.inside.Moves.{if_open}
use Rattle.ix_step.specs.declared.fault.Unbuilt.{Unbuilt}

-- What the list holds

put_all-canon : (us ys : List Plain) → put_all ys (canon tree_cmp us) ≡ canon tree_cmp (us ++ ys)
put_all-canon us [] = ap (canon tree_cmp) (sym (append-nil us))
put_all-canon us (y ∷ ys) =
    ap (put_all ys) (sym (canon-end tree_order us y))
    ∙ put_all-canon (us ++ y ∷ []) ys
    ∙ ap (canon tree_cmp) (append_assoc us (y ∷ []) ys)

-- from nothing, the list is the canonical one
pub put_all-nothing : (ys : List Plain) → put_all ys [] ≡ canon tree_cmp ys
put_all-nothing ys = put_all-canon [] ys

pub put_all-append : (us vs xs : List Plain) → put_all (us ++ vs) xs ≡ put_all vs (put_all us xs)
put_all-append [] vs xs = refl
put_all-append (u ∷ us) vs xs = put_all-append us vs (put_once tree_cmp u xs)

-- How large it is

-- the Size of the items of a list
abbrev pub size_all : List Plain → ℕ
size_all xs = size_of (listed xs)

-- the list with one more tree is no smaller, and the tree is no larger than it
record Grows (y : Plain) (xs ys : List Plain) : Type 0 where
  pub list : size_all xs ≤ size_all ys
  pub tree : size_of y ≤ size_all ys

put_grows : (y : Plain) (xs : List Plain) → Grows y xs (put_once tree_cmp y xs)
put_grows y [] = record { list = omega arith; tree = omega arith }
put_grows y (x ∷ xs) =
    by_order-has (Grows y (x ∷ xs)) (tree_cmp y x) (y ∷ x ∷ xs) (x ∷ xs) (x ∷ put_once tree_cmp y xs)
    (λ e. record { list = omega arith; tree = omega arith })
    (λ e. let s : size_of y ≡ size_of x = ap size_of (tree_cmp-same y x e) in record { list = omega arith; tree = omega arith })
    (λ e. let g = put_grows y xs in record { list = omega (arith, g.list); tree = omega (arith, g.tree) })

pub put_all_grows : (ys xs : List Plain) → size_all xs ≤ size_all (put_all ys xs)
put_all_grows [] xs = omega arith
put_all_grows (y ∷ ys) xs = omega (arith, (put_grows y xs).list, put_all_grows ys (put_once tree_cmp y xs))

pub put_all_holds : (y : Plain) (ys xs : List Plain) → Member y ys → size_of y ≤ size_all (put_all ys xs)
put_all_holds y [] xs m = elim m [ ]
put_all_holds y (z ∷ ys) xs m = elim (Member-cases m) [
  | inl e ↦ let s : size_of y ≡ size_of z = ap size_of e in omega (arith, s, (put_grows z xs).tree, put_all_grows ys (put_once tree_cmp z xs))
  | inr n ↦ put_all_holds y ys (put_once tree_cmp z xs) n
]

-- a new tree adds its Size
put_adds : (y : Plain) (xs : List Plain) → ((x : Plain) → Member x xs → ¬ (tree_cmp y x ≡ Equal)) → size_all (put_once tree_cmp y xs) ≡ size_all xs + size_of y
put_adds y [] n = omega arith
put_adds y (x ∷ xs) n =
    by_order-has (λ l. size_all l ≡ size_all (x ∷ xs) + size_of y) (tree_cmp y x) (y ∷ x ∷ xs) (x ∷ xs) (x ∷ put_once tree_cmp y xs)
    (λ e. omega arith)
    (λ e. absurd (n x here e))
    (λ e. let h = put_adds y xs (λ z m. n z (there m)) in omega (arith, h))

-- Sets of items in memory

module _ {T : Type 0} (f : T → Plain) (cmp : T → T → Ordering) (is : (x y : T) → cmp x y ≡ tree_cmp (f x) (f y)) where
  is_new : (xs : List T) (item : T) → ¬ HasItem cmp xs item → (x : Plain) → Member x (map f xs) → ¬ (tree_cmp (f item) x ≡ Equal)
  is_new xs item n x m e = n (Member-HasItem f cmp is xs item (subst (λ y. Member y (map f xs)) (sym (tree_cmp-same (f item) x e)) m))

  -- an item that is put into a set is its tree put into the list of trees
  pub gathers_put : (set : Alternatives T) (new : List T) (item : T) (r : Result (Unit {0}) Unbuilt) → PutsItem cmp (λ x. size_of (f x)) set new item r → Gathers set.budget (f item ∷ []) (map f set.items) (map f new) r
  gathers_put set new item (Ok done) h = ap (map f) h ∙ insert_key-put_once f cmp is set.items item
  gathers_put set new item (Err fault) h = λ e.
      let k = h e in
      let sum = weight_of-list f set.items in
      let size = put_adds (f item) (map f set.items) (is_new set.items item k.0) in
      omega (arith, k.1, sum, size)

-- Trees that may be dead

-- a tree above the limit is open
pub above_open : (limit : ℕ) (x : Plain) → 1 ≤ limit → limit < size_of x → is_open x ≡ true
above_open limit x le lt = by_kind (kind x)
  where
    by_kind : Kind x → is_open x ≡ true
    by_kind (is_the_dead e) = let s : size_of x ≡ 1 = ap size_of e in absurd (omega arith)
    by_kind (is_the_done e) = let s : size_of x ≡ 1 = ap size_of e in absurd (omega arith)
    by_kind (stays_open o l n) = o

-- so it is live
pub above_lives : (limit : ℕ) (x : Plain) → 1 ≤ limit → limit < size_of x → is_dead x ≡ false
above_lives limit x le lt = open_live x (above_open limit x le lt)

-- so what is made of it is put into the list, which is then above the limit
pub live_over : (limit : ℕ) (x made : Plain) (old : List Plain) → 1 ≤ limit → size_of x ≤ size_of made → limit < size_of x → limit < size_all (put_all (when (is_live x) (made ∷ [])) old)
live_over limit x made old le grows lt =
    let k : size_of made ≤ size_all (put_all (made ∷ []) old) = put_all_holds made (made ∷ []) old here in
    let e : size_all (put_all (when (is_live x) (made ∷ [])) old) ≡ size_all (put_all (made ∷ []) old) = ap (λ b. size_all (put_all (when (not b) (made ∷ [])) old)) (above_lives limit x le lt) in
    omega arith

-- and where it is listed if it is open, the list is above the limit
pub open_over : (limit : ℕ) (x : Plain) (old : List Plain) → 1 ≤ limit → limit < size_of x → limit < size_all (put_all (if_open x) old)
open_over limit x old le lt =
    let k : size_of x ≤ size_all (put_all (x ∷ []) old) = put_all_holds x (x ∷ []) old here in
    let e : size_all (put_all (if_open x) old) ≡ size_all (put_all (x ∷ []) old) = ap (λ b. size_all (put_all (when b (x ∷ [])) old)) (above_open limit x le lt) in
    omega arith

-- an ended tree adds nothing to the open ones, and an open one adds itself
pub ended_adds : (limit : ℕ) (x : Plain) (old : List Plain) → is_ended x ≡ true → Gathers limit (if_open x) old old (Ok tt)
ended_adds limit x old e = sym (ap (λ b. put_all (when (not b) (x ∷ [])) old) e)

pub open_adds : (limit : ℕ) (x : Plain) (old new : List Plain) (r : Result (Unit {0}) Unbuilt) → is_ended x ≡ false → Gathers limit (x ∷ []) old new r → Gathers limit (if_open x) old new r
open_adds limit x old new r e h = subst (λ ys. Gathers limit ys old new r) (sym (ap (λ b. when (not b) (x ∷ [])) e)) h

module _ (limit : ℕ) (x made : Plain) (old : List Plain) where
  -- a dead tree adds nothing
  pub dead_adds : is_dead x ≡ true → Gathers limit (when (is_live x) (made ∷ [])) old old (Ok tt)
  dead_adds e = sym (ap (λ b. put_all (when (not b) (made ∷ [])) old) e)

  -- a live tree adds what is made of it
  pub live_adds : (y : Plain) (new : List Plain) (r : Result (Unit {0}) Unbuilt) → is_dead x ≡ false → y ≡ made → Gathers limit (y ∷ []) old new r → Gathers limit (when (is_live x) (made ∷ [])) old new r
  live_adds y new r e same h =
      subst (λ ys. Gathers limit ys old new r) (ap (λ z. z ∷ []) same ∙ sym (ap (λ b. when (not b) (made ∷ [])) e)) h

-- a test of the items of a set
pub any_of_set : (test : Plain → Bool) (us : List Plain) → list_any test (canon tree_cmp us) ≡ list_any test us
any_of_set test us = any_same test (canon tree_cmp us) us (canon-members tree_order us)

-- Tests of the trees of a list, one by one

pub or_assoc : (a b c : Bool) → (a || (b || c)) ≡ ((a || b) || c)
or_assoc true b c = refl
or_assoc false b c = refl

pub or_false : (b : Bool) → (b || false) ≡ b
or_false true = refl
or_false false = refl

module _ (test : Plain → Bool) (ts : List Plain) (i : ℕ) where
  one_more : (d : Plain) → i < length ts → d ≡ get_or ts i d → list_any test ((drop i ts)) ≡ (test d || list_any test ((drop (i + 1) ts)))
  one_more d lt is =
      let cut : drop i ts ≡ get_or ts i d ∷ drop (i + 1) ts = rw (add-one, drop-cons ts i d) refl in
      ap (λ l. list_any test l) cut ∙ ap (λ t. test t || list_any test ((drop (i + 1) ts))) (sym is)

  pub any_found : (d : Plain) → i < length ts → d ≡ get_or ts i d → test d ≡ true → true ≡ list_any test ((drop i ts))
  any_found d lt is e = sym (one_more d lt is ∙ ap (λ b. b || list_any test ((drop (i + 1) ts))) e)

  pub any_passed : (d : Plain) → i < length ts → d ≡ get_or ts i d → test d ≡ false → list_any test ((drop (i + 1) ts)) ≡ list_any test ((drop i ts))
  any_passed d lt is e = sym (one_more d lt is ∙ ap (λ b. b || list_any test ((drop (i + 1) ts))) e)

  pub any_none : length ts ≤ i → false ≡ list_any test ((drop i ts))
  any_none le = ap (λ l. list_any test l) (sym (drop_all i ts le))

any_after : (test : Plain → Bool) (us : List Plain) (x : Plain) → list_any test (us ++ x ∷ []) ≡ (list_any test us || test x)
any_after test [] x = or_false (test x)
any_after test (u ∷ us) x = ap (λ b. test u || b) (any_after test us x) ∙ or_assoc (test u) (list_any test us) (test x)

-- of one tree more
pub any_more : (test : Plain → Bool) (ts : List Plain) (i : ℕ) (t : Plain) → i < length ts → t ≡ get_or ts i t → list_any test (take (i + 1) ts) ≡ (list_any test (take i ts) || test t)
any_more test ts i t lt is =
    ap (list_any test) (take_more ts i t lt ∙ ap (λ u. take i ts ++ u ∷ []) (sym is)) ∙ any_after test (take i ts) t

-- a tree put into a set of trees
pub gathers_tree : (set : Alternatives Plain) (new : List Plain) (item : Plain) (r : Result (Unit {0}) Unbuilt) → PutsItem tree_cmp size_of set new item r → Gathers set.budget (item ∷ []) set.items new r
gathers_tree set new item r h =
    subst (λ l. Gathers set.budget (item ∷ []) l new r) (map-id set.items)
    (subst (λ l. Gathers set.budget (item ∷ []) (map (λ x. x) set.items) l r) (map-id new)
    (gathers_put (λ x. x) tree_cmp (λ x y. refl) set new item r h))

-- what trees weigh together is the Size of their list
pub tree_weights : (xs : List Plain) → sum_by size_of xs ≡ size_of (listed xs)
tree_weights xs = sym (size_of-listed xs)
