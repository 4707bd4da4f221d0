-- An item that goes to its place in a list that ascends strictly.
use Rattle.std.proofs.Common.{◌≡◌, ℕ, suc, zero, ◌+◌, ◌<◌, ◌≤◌, List, [], ◌∷◌, length, get_or, refl, sym, ap, ◌∙◌, subst, arith, ⊎_elim}
use Rattle.std.specs.BTreeSet.{insert_key}
use Rattle.std.specs.Cmp.{IsTotalOrder}
use Rattle.std.specs.List.{insert, AllByRecursion, AllWithin, HoldsAt}
use Rattle.std.specs.List.Sorted.{IsStrictlySortedBy, IsNonDecreasingBy, IsPartitionPoint}
use Rattle.std.specs.Ordering.{match_ordering, ordering_reverse, ordering_index, is_lt}
use Rattle.std.specs.declared.cmp.Ordering.{Ordering}
use Rattle.std.specs.declared.cmp.Ordering.TheVariants.{Less, Equal, Greater}
use Rattle.std.proofs.lemmas.Bool.{cases_lt}
use Rattle.std.proofs.lemmas.Cmp.{alike_right}
use Rattle.std.proofs.lemmas.List.{get_or_default}
use Rattle.std.proofs.lemmas.List.Sorted.{searchable_from_sorted}
use Rattle.std.proofs.lemmas.Map.Keys.{Less-from_sorted}
use Rattle.ix_alts.specs.inside.Alternatives.{HasItem}

module _ {T : Type 0} {cmp : T → T → Ordering} (o : IsTotalOrder cmp) where
  -- an answer of the order, the other way round
  pub turned : (x y : T) (r : Ordering) → cmp x y ≡ r → cmp y x ≡ ordering_reverse r
  turned x y r e = o.antisymm y x ∙ ap ordering_reverse e

  -- a list that ascends strictly can be searched by halving
  pub searchable : (xs : List T) (item : T) → IsStrictlySortedBy cmp xs → IsNonDecreasingBy (λ x. ordering_index (cmp x item)) xs
  searchable xs item h =
      searchable_from_sorted o (λ x. x) xs item
      (λ k d _ lt. ap is_lt (turned (get_or xs k d) (get_or xs (k + 1) d) Less (Less-from_sorted cmp xs k (k + 1) d h (omega arith) lt)))

  -- between the items below it and those above it is the item's place
  pub insert_key-insert : (xs : List T) (i : ℕ) (item : T) → i ≤ length xs → AllWithin (λ x. cmp x item ≡ Less) xs 0 i → AllWithin (λ x. cmp x item ≡ Greater) xs i (length xs) → insert_key cmp xs item ≡ insert xs i item
  insert_key-insert [] zero item le below above = refl
  insert_key-insert [] (suc i) item le below above = absurd (omega arith)
  insert_key-insert (x ∷ xs) zero item le below above =
      rw (turned x item Greater (above 0 x (omega arith) (omega arith))) refl
  insert_key-insert (x ∷ xs) (suc i) item le below above =
      let e : cmp item x ≡ Greater = turned x item Less (below 0 x (omega arith) (omega arith)) in
      let rest = insert_key-insert xs i item (omega arith) (λ k d a b. below (suc k) d (omega arith) (omega arith)) (λ k d a b. above (suc k) d (omega arith) (omega arith)) in
      rw e (ap (λ l. x ∷ l) rest)

  -- what holds of the list and of the item holds of both
  pub AllByRecursion-insert_key : (P : T → Type 0) (xs : List T) (item : T) → AllByRecursion P xs → P item → AllByRecursion P (insert_key cmp xs item)
  AllByRecursion-insert_key P [] item h p = (p, tt)
  AllByRecursion-insert_key P (x ∷ xs) item h p = by_answer (AllByRecursion-insert_key P xs item h.1 p) (cmp item x)
    where
      by_answer : AllByRecursion P (insert_key cmp xs item) → (r : Ordering) → AllByRecursion P (match_ordering r (item ∷ x ∷ xs) (x ∷ xs) (x ∷ insert_key cmp xs item))
      by_answer rest Less = (p, h)
      by_answer rest Equal = h
      by_answer rest Greater = (h.0, rest)

  all_above : (item x : T) (xs : List T) → cmp item x ≡ Less → AllByRecursion (λ y. cmp x y ≡ Less) xs → AllByRecursion (λ y. cmp item y ≡ Less) xs
  all_above item x [] e h = tt
  all_above item x (y ∷ ys) e h = (o.trans item x y e h.0, all_above item x ys e h.1)

  -- a list that ascends strictly still does with the item
  pub insert_key-sorted : (xs : List T) (item : T) → IsStrictlySortedBy cmp xs → IsStrictlySortedBy cmp (insert_key cmp xs item)
  unfolding IsStrictlySortedBy
  insert_key-sorted [] item h = (tt, tt)
  insert_key-sorted (x ∷ xs) item h = by_answer (insert_key-sorted xs item h.1) (cmp item x) refl
    where
      by_answer : IsStrictlySortedBy cmp (insert_key cmp xs item) → (r : Ordering) → cmp item x ≡ r → IsStrictlySortedBy cmp (match_ordering r (item ∷ x ∷ xs) (x ∷ xs) (x ∷ insert_key cmp xs item))
      by_answer rest Less e = ((e, all_above item x xs e h.0), h)
      by_answer rest Equal e = h
      by_answer rest Greater e =
          (AllByRecursion-insert_key (λ y. cmp x y ≡ Less) xs item h.0 (turned item x Greater e), rest)

  -- where an equal item stands in the list, the item changes nothing
  pub insert_key-found : (xs : List T) (item : T) (k : ℕ) → IsStrictlySortedBy cmp xs → k < length xs → HoldsAt (λ x. cmp x item ≡ Equal) xs k → insert_key cmp xs item ≡ xs
  unfolding IsStrictlySortedBy
  insert_key-found [] item k h lt found = absurd (omega arith)
  insert_key-found (x ∷ xs) item zero h lt found = rw (turned x item Equal (found x)) refl
  insert_key-found (x ∷ xs) item (suc k) h lt found =
      let later : cmp x (get_or xs k x) ≡ Less = Less-from_sorted cmp (x ∷ xs) 0 (suc k) x h (omega arith) lt in
      let below : cmp x item ≡ Less = sym (alike_right o (get_or xs k x) item x (found x)) ∙ later in
      rw (turned x item Less below) (ap (λ l. x ∷ l) (insert_key-found xs item k h.1 (omega arith) found))

  -- an equal item stands in the list at this place
  pub HasItem-at : (xs : List T) (item : T) (k : ℕ) → k < length xs → HoldsAt (λ x. cmp x item ≡ Equal) xs k → HasItem cmp xs item
  HasItem-at xs item k lt found =
      (k, get_or xs k item, lt, get_or_default xs k (get_or xs k item) item lt, found item)

  -- between items below it and items above it no item is equal
  pub HasItem-none : (xs : List T) (i : ℕ) (item : T) → AllWithin (λ x. cmp x item ≡ Less) xs 0 i → AllWithin (λ x. cmp x item ≡ Greater) xs i (length xs) → ¬ HasItem cmp xs item
  HasItem-none xs i item below above h =
      let e : cmp (get_or xs h.0 h.1) item ≡ Equal = ap (λ x. cmp x item) h.3 ∙ h.4 in
      ⊎_elim (λ lt. let l : cmp (get_or xs h.0 h.1) item ≡ Less = below h.0 h.1 (omega arith) lt in cc)
      (λ ge. let g : cmp (get_or xs h.0 h.1) item ≡ Greater = above h.0 h.1 ge h.2 in cc)
      (cases_lt h.0 i)

  -- where a search by halving found no equal item, none is there, and its answer is the item's place
  pub at_place : (xs seen : List T) (item : T) (i : ℕ) → seen ≡ xs → IsStrictlySortedBy cmp xs → i ≤ length seen → (IsNonDecreasingBy (λ x. ordering_index (cmp x item)) seen → IsPartitionPoint (λ x. cmp x item ≡ Less) (λ x. cmp x item ≡ Greater) seen i) → (¬ HasItem cmp xs item) × (insert_key cmp xs item ≡ insert xs i item)
  at_place xs seen item i e h le found =
      let P : List T → Type 0 = λ l. (i ≤ length l) × (IsNonDecreasingBy (λ x. ordering_index (cmp x item)) l → IsPartitionPoint (λ x. cmp x item ≡ Less) (λ x. cmp x item ≡ Greater) l i) in
      let p : P xs = subst P e (le, found) in
      let cut = p.1 (searchable xs item h) in
      (HasItem-none xs i item cut.0 cut.1, insert_key-insert xs i item p.0 cut.0 cut.1)

  -- where it found one, an equal item is there, and the item changes nothing
  pub at_equal : (xs seen : List T) (item : T) (k : ℕ) → seen ≡ xs → IsStrictlySortedBy cmp xs → k < length seen → HoldsAt (λ x. cmp x item ≡ Equal) seen k → HasItem cmp xs item × (insert_key cmp xs item ≡ xs)
  at_equal xs seen item k e h lt found =
      let P : List T → Type 0 = λ l. (k < length l) × HoldsAt (λ x. cmp x item ≡ Equal) l k in
      let p : P xs = subst P e (lt, found) in
      (HasItem-at xs item k p.0 p.1, insert_key-found xs item k h p.0 p.1)
