-- Bags with one more tree in its place, and the bags in which each tree in turn is taken out.
use Rattle.std.proofs.Common.{Option, Some, None, ⊎_elim, ◌≡◌, ℕ, zero, suc, ◌<◌, ◌≤◌, ◌+◌, Bool, true, false, List, [], ◌∷◌, ◌++◌, map, length, get_or, take, drop, refl, sym, ap, ◌∙◌, subst, arith, if◌then◌else◌}
use Rattle.std.proofs.lemmas.Bool.{cases_lt}
use Rattle.std.specs.List.{AllWithin, insert, remove}
use Rattle.std.specs.List.Sorted.{IsPartitionPoint}
use Rattle.std.specs.Ordering.{is_gt}
use Rattle.std.proofs.lemmas.List.{get_or-map, length-map}
use Rattle.ix_tree.specs.Plain.{Plain, listed}
use Rattle.ix_tree.specs.Order.{tree_cmp}
use Rattle.ix_tree.specs.Size.{size_of}
use Rattle.ix_can.specs.Nodes.{is_done, put_in}
use Rattle.ix_can.specs.inside.Moved.{picks}
use Rattle.ix_step.specs.inside.ParallelMoves.{more_runs}

-- Each item with the others

module _ {A : Type 0} where
  pub length-picks : (xs : List A) → length (picks xs) ≡ length xs
  length-picks [] = refl
  length-picks (x ∷ xs) = ap suc (length-map (picks xs) (λ (p : A × List A). (p.0, x ∷ p.1)) ∙ length-picks xs)

  -- the item at a place, with the list without that place
  pub get-picks : (xs : List A) (i : ℕ) (d : A) (k : A × List A) → i < length xs → get_or (picks xs) i k ≡ (get_or xs i d, remove xs i)
  get-picks [] i d k lt = absurd (omega arith)
  get-picks (x ∷ xs) zero d k lt = refl
  get-picks (x ∷ xs) (suc i) d k lt =
      get_or-map (λ p. (p.0, x ∷ p.1)) (picks xs) i k k (omega (arith, length-picks xs))
      ∙ ap (λ (p : A × List A). (p.0, x ∷ p.1)) (get-picks xs i d k (omega arith))

  pub map-insert : {B : Type 0} (f : A → B) (xs : List A) (i : ℕ) (x : A) → map f (insert xs i x) ≡ insert (map f xs) i (f x)
  map-insert f [] zero x = refl
  map-insert f [] (suc i) x = refl
  map-insert f (y ∷ ys) zero x = refl
  map-insert f (y ∷ ys) (suc i) x = ap (λ l. f y ∷ l) (map-insert f ys i x)

  pub map-remove : {B : Type 0} (f : A → B) (xs : List A) (i : ℕ) → map f (remove xs i) ≡ remove (map f xs) i
  map-remove f [] zero = refl
  map-remove f [] (suc i) = refl
  map-remove f (y ∷ ys) zero = refl
  map-remove f (y ∷ ys) (suc i) = ap (λ l. f y ∷ l) (map-remove f ys i)

-- The place of a tree

-- the trees before the place i, and then the rest with x in its place
abbrev pub placed_after : Plain → List Plain → ℕ → List Plain
placed_after x ys i = take i ys ++ put_in x (drop i ys)

further : (x : Plain) (ys : List Plain) (i : ℕ) (d : Plain) → i < length ys → is_gt (tree_cmp x (get_or ys i d)) ≡ true → placed_after x ys i ≡ placed_after x ys (suc i)
further x [] i d lt above = absurd (omega arith)
further x (y ∷ ys) zero d lt above = rw above refl
further x (y ∷ ys) (suc i) d lt above = ap (λ l. y ∷ l) (further x ys i d (omega arith) above)

-- x stands before a tree that it isn't above
pub place_found : (x : Plain) (ys : List Plain) (i : ℕ) (d : Plain) → i < length ys → is_gt (tree_cmp x (get_or ys i d)) ≡ false → placed_after x ys i ≡ insert ys i x
place_found x [] i d lt above = absurd (omega arith)
place_found x (y ∷ ys) zero d lt above = rw above refl
place_found x (y ∷ ys) (suc i) d lt above = ap (λ l. y ∷ l) (place_found x ys i d (omega arith) above)

-- x stands at the end, where it is above all trees
pub place_end : (x : Plain) (ys : List Plain) → placed_after x ys (length ys) ≡ insert ys (length ys) x
place_end x [] = refl
place_end x (y ∷ ys) = ap (λ l. y ∷ l) (place_end x ys)

placed_upto : (x : Plain) (ys : List Plain) (i : ℕ) → i ≤ length ys → AllWithin (λ y. is_gt (tree_cmp x y) ≡ true) ys 0 i → put_in x ys ≡ placed_after x ys i
placed_upto x ys zero le above = refl
placed_upto x ys (suc i) le above =
    placed_upto x ys i (omega arith) (λ k d low lt. above k d low (omega arith)) ∙ further x ys i x (omega arith) (above i x (omega arith) (omega arith))

-- x stands behind the trees that it is above
pub place_is : (x : Plain) (ys : List Plain) (i : ℕ) → i ≤ length ys → IsPartitionPoint (λ y. is_gt (tree_cmp x y) ≡ true) (λ y. is_gt (tree_cmp x y) ≡ false) ys i → put_in x ys ≡ insert ys i x
place_is x ys i le point =
    placed_upto x ys i le point.0
    ∙ ⊎_elim (λ lt. place_found x ys i x lt (point.1 i x (omega arith) lt)) (λ ge. at_end (omega arith)) (cases_lt i (length ys))
  where
    at_end : i ≡ length ys → placed_after x ys i ≡ insert ys i x
    at_end is = subst (λ n. placed_after x ys n ≡ insert ys n x) (sym is) (place_end x ys)

-- The place of a tree in a list without the one at a place

-- x stands behind the place, where it is above all trees before the place
pub put_behind : (x : Plain) (ys : List Plain) (i : ℕ) (d : Plain) → i < length ys → ((k : ℕ) → k < i → is_gt (tree_cmp x (get_or ys k d)) ≡ true) → put_in x (remove ys i) ≡ take i ys ++ put_in x (drop (suc i) ys)
put_behind x [] i d lt above = absurd (omega arith)
put_behind x (y ∷ ys) zero d lt above = refl
put_behind x (y ∷ ys) (suc i) d lt above = rw (above zero (omega arith)) (ap (λ l. y ∷ l) (put_behind x ys i d (omega arith) (λ k below. above (suc k) (omega arith))))

-- x stands before what is behind the place, where it isn't above the first of that
pub put_before : (x : Plain) (ys : List Plain) (i : ℕ) (d : Plain) → suc i < length ys → is_gt (tree_cmp x (get_or ys (suc i) d)) ≡ false → put_in x (remove ys i) ≡ put_in x (take i ys) ++ drop (suc i) ys
put_before x [] i d lt next = absurd (omega arith)
put_before x (y ∷ []) i d lt next = absurd (omega arith)
put_before x (y ∷ z ∷ zs) zero d lt next = rw next refl
put_before x (y ∷ z ∷ zs) (suc i) d lt next = by_test (is_gt (tree_cmp x y)) (put_before x (z ∷ zs) i d (omega arith) next)
  where
    by_test : (b : Bool) → put_in x (remove (z ∷ zs) i) ≡ put_in x (take i (z ∷ zs)) ++ drop (suc i) (z ∷ zs) → (if b then y ∷ put_in x (remove (z ∷ zs) i) else x ∷ y ∷ remove (z ∷ zs) i) ≡ (if b then y ∷ put_in x (take i (z ∷ zs)) else x ∷ y ∷ take i (z ∷ zs)) ++ drop (suc i) (z ∷ zs)
    by_test true h = ap (λ l. y ∷ l) h
    by_test false h = refl

-- Sizes

pub size-insert : (x : Plain) (ys : List Plain) (i : ℕ) → size_of (listed (insert ys i x)) ≡ size_of x + size_of (listed ys)
size-insert x [] zero = refl
size-insert x [] (suc i) = refl
size-insert x (y ∷ ys) zero = refl
size-insert x (y ∷ ys) (suc i) = omega (arith, size-insert x ys i)

pub size-remove : (ys : List Plain) (i : ℕ) → size_of (listed (remove ys i)) ≤ size_of (listed ys)
size-remove [] zero = omega arith
size-remove [] (suc i) = omega arith
size-remove (y ∷ ys) zero = omega arith
size-remove (y ∷ ys) (suc i) = omega (arith, size-remove ys i)

pub size-put_in : (x : Plain) (ys : List Plain) → size_of (listed (put_in x ys)) ≡ size_of x + size_of (listed ys)
size-put_in x [] = refl
size-put_in x (y ∷ ys) = by_test (is_gt (tree_cmp x y)) (size-put_in x ys)
  where
    by_test : (b : Bool) → size_of (listed (put_in x ys)) ≡ size_of x + size_of (listed ys) → size_of (listed (if b then y ∷ put_in x ys else x ∷ y ∷ ys)) ≡ size_of x + size_of (listed (y ∷ ys))
    by_test true h = omega (arith, h)
    by_test false h = omega arith

-- one more run adds at most its Size
pub size-more_runs : (wanted : Option ℕ) (x : Plain) (ys : List Plain) → size_of (listed (more_runs wanted x ys)) ≤ size_of x + size_of (listed ys)
size-more_runs (Some n) x ys = omega (arith, size-put_in x ys)
size-more_runs None x ys = by_test (is_done x)
  where
    by_test : (b : Bool) → size_of (listed (if b then ys else put_in x ys)) ≤ size_of x + size_of (listed ys)
    by_test true = omega arith
    by_test false = omega (arith, size-put_in x ys)

-- a list without the item at a place is what stands before it and behind it
pub remove_is : {A : Type 0} (xs : List A) (i : ℕ) → remove xs i ≡ take i xs ++ drop (suc i) xs
remove_is [] zero = refl
remove_is [] (suc i) = refl
remove_is (x ∷ xs) zero = refl
remove_is (x ∷ xs) (suc i) = ap (λ l. x ∷ l) (remove_is xs i)
