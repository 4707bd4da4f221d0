-- Rising lists of trees: what halving finds in them, and runs of equal trees.
use Rattle.std.proofs.Common.{◌≡◌, ◌+◌, ◌⊎◌, inl, inr, ℕ, zero, suc, ◌<◌, ◌≤◌, Bool, true, false, not, List, [], ◌∷◌, length, get_or, take, drop, refl, sym, ap, ◌∙◌, subst, true≢false, arith, Ordering, Less, Equal, Greater}
use Rattle.std.specs.Cmp.{tied_itself, upto}
use Rattle.std.specs.List.Sorted.{IsPartitionPoint, IsPartitionedBy}
use Rattle.std.specs.Ordering.{is_gt, ordering_reverse}
use Rattle.std.proofs.lemmas.Bool.{cases_lt}
use Rattle.std.proofs.lemmas.List.{take-append-drop, get_or_default}
use Rattle.ix_words.specs.Each.{Each, item}
use Rattle.ix_words.proofs.Each.{Each-left}
use Rattle.ix_tree.specs.Order.{tree_cmp}
use Rattle.ix_tree.specs.Plain.{Plain}
use Rattle.ix_tree.specs.lemmas.TreeOrder.{tree_order}
use Rattle.ix_can.specs.Laws.{IsRising}
use Rattle.ix_step.specs.inside.ParallelMoves.{IsRepeat}

each_get : {G : Plain → Type 0} (xs : List Plain) (i : ℕ) (d : Plain) → i < length xs → Each G xs → G (get_or xs i d)
each_get [] i d lt h = absurd (omega arith)
each_get (x ∷ xs) zero d lt (item g h) = g
each_get (x ∷ xs) (suc i) d lt (item g h) = each_get xs i d (omega arith) h

-- the front of a rising list rises
pub rising_take : (xs : List Plain) (i : ℕ) → IsRising xs → IsRising (take i xs)
rising_take [] zero h = h
rising_take [] (suc i) h = h
rising_take (x ∷ xs) zero h = tt
rising_take (x ∷ xs) (suc i) h = (Each-left (take i xs) (drop i xs) (subst (Each (λ y. is_gt (tree_cmp x y) ≡ false)) (sym (take-append-drop i xs)) h.0), rising_take xs i h.1)

-- and so does what is behind
pub rising_drop : (xs : List Plain) (i : ℕ) → IsRising xs → IsRising (drop i xs)
rising_drop [] zero h = h
rising_drop [] (suc i) h = h
rising_drop (x ∷ xs) zero h = h
rising_drop (x ∷ xs) (suc i) h = rising_drop xs i h.1

-- no tree is above one behind it
rising_at : (xs : List Plain) (i j : ℕ) (d : Plain) → IsRising xs → i ≤ j → j < length xs → is_gt (tree_cmp (get_or xs i d) (get_or xs j d)) ≡ false
rising_at [] i j d h le lt = absurd (omega arith)
rising_at (x ∷ xs) zero zero d h le lt = ap is_gt (tied_itself tree_order.total x)
rising_at (x ∷ xs) zero (suc j) d h le lt = each_get xs j d (omega arith) h.0
rising_at (x ∷ xs) (suc i) zero d h le lt = absurd (omega arith)
rising_at (x ∷ xs) (suc i) (suc j) d h le lt = rising_at xs i j d h.1 (omega arith) (omega arith)

above_before : (x y z : Plain) → is_gt (tree_cmp x z) ≡ true → is_gt (tree_cmp y z) ≡ false → is_gt (tree_cmp x y) ≡ true
above_before x y z e f = by_test (is_gt (tree_cmp x y)) refl
  where
    by_test : (b : Bool) → is_gt (tree_cmp x y) ≡ b → b ≡ true
    by_test true k = refl
    by_test false k = absurd (true≢false (sym e ∙ upto tree_order.total x y z k f))

-- the trees that x is above stand before all others
pub below_first : (x : Plain) (ys : List Plain) → IsRising ys → IsPartitionedBy (λ y. is_gt (tree_cmp x y)) ys
below_first x ys h = λ i j d le lt above. above_before x (get_or ys i d) (get_or ys j d) above (rising_at ys i j d h le lt)

not_false : (b : Bool) → not b ≡ true → b ≡ false
not_false false e = refl
not_false true e = sym e

-- and those that aren't above x before all that are
pub upto_first : (x : Plain) (ys : List Plain) → IsRising ys → IsPartitionedBy (λ y. not (is_gt (tree_cmp y x))) ys
upto_first x ys h = λ i j d le lt upto_x.
    ap not (upto tree_order.total (get_or ys i d) (get_or ys j d) x (rising_at ys i j d h le lt) (not_false (is_gt (tree_cmp (get_or ys j d) x)) upto_x))

-- where the last isn't above x, none is
pub all_upto : (x : Plain) (ys : List Plain) (last : ℕ) → IsRising ys → last + 1 ≡ length ys → is_gt (tree_cmp (get_or ys last x) x) ≡ false → IsPartitionPoint (λ y. not (is_gt (tree_cmp y x)) ≡ true) (λ y. not (is_gt (tree_cmp y x)) ≡ false) ys (length ys)
all_upto x ys last h ends upto_x = (
  λ k d low lt. upto_first x ys h k last d (omega (arith, ends)) (omega (arith, ends)) (ap (λ y. not (is_gt (tree_cmp y x))) (get_or_default ys last d x (omega (arith, ends))) ∙ ap not upto_x),
  λ k d low lt. absurd (omega (arith, low, lt)),
)

level : (x y : Plain) → is_gt (tree_cmp x y) ≡ false → is_gt (tree_cmp y x) ≡ false → x ≡ y
level x y e f = by_order (tree_cmp x y) refl
  where
    by_order : (o : Ordering) → tree_cmp x y ≡ o → x ≡ y
    by_order Less is = absurd (true≢false (ap is_gt (sym (ap ordering_reverse is) ∙ sym (tree_order.total.antisymm y x)) ∙ f))
    by_order Equal is = tree_order.tells_apart x y is
    by_order Greater is = absurd (true≢false (ap is_gt (sym is) ∙ e))

module _ (xs : List Plain) (h : IsRising xs) (place end : ℕ) (x : Plain) (lt : place < length xs) (is : x ≡ get_or xs place x) (le : end ≤ length xs) (point : IsPartitionPoint (λ y. not (is_gt (tree_cmp y x)) ≡ true) (λ y. not (is_gt (tree_cmp y x)) ≡ false) xs end) where
  same_in_run : (k : ℕ) (d : Plain) → place ≤ k → k < end → get_or xs k d ≡ x
  same_in_run k d low high =
      let at : get_or xs place d ≡ x = get_or_default xs place d x lt ∙ sym is in
      level (get_or xs k d) x (not_false (is_gt (tree_cmp (get_or xs k d) x)) (point.0 k d (omega arith) high))
      (subst (λ y. is_gt (tree_cmp y (get_or xs k d)) ≡ false) at (rising_at xs place k d h low (omega arith)))

  -- the place itself is one of them
  pub run_goes_on : place < end
  run_goes_on = by_test (cases_lt place end)
    where
      by_test : place < end ⊎ end ≤ place → place < end
      by_test (inl below) = below
      by_test (inr above) = absurd (true≢false (ap not (sym (ap is_gt (tied_itself tree_order.total x))) ∙ ap (λ y. not (is_gt (tree_cmp y x))) is ∙ point.1 place x above lt))

  -- from the place to where the trees end that aren't above its tree each repeats the one before it
  pub run_repeats : (k : ℕ) → place < k → k < end → IsRepeat xs k
  run_repeats zero low high = absurd (omega arith)
  run_repeats (suc k) low high = (k, omega arith, λ d. same_in_run k d (omega arith) (omega arith) ∙ sym (same_in_run (suc k) d (omega arith) high))
