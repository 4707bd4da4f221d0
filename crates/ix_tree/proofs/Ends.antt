-- Where one of two lists that began alike ends, they compare as their lengths.
use Rattle.std.proofs.Common.{◌≡◌, ◌≤◌, ◌-◌, ℕ, min, List, [], ◌∷◌, length, drop, map as each, refl, ◌∙◌, sym, arith, nat_cmp, Less, Equal, Greater}
use Rattle.std.specs.Cmp.{nat_cmp_is}
use Rattle.std.proofs.lemmas.List.{length-drop}
use Rattle.ix_tree.specs.Plain.{Plain, listed}
use Rattle.ix_tree.specs.Order.{tree_cmp}

module _ {A : Type 0} (g : List A → Plain) (n k i m : ℕ) (shorter : m ≡ min n k) (reached : m ≤ i) (within : i ≤ m) where
  rests : (less : (y : A) (s : List A) → tree_cmp (g []) (g (y ∷ s)) ≡ Less) (same : tree_cmp (g []) (g []) ≡ Equal) (greater : (x : A) (r : List A) → tree_cmp (g (x ∷ r)) (g []) ≡ Greater)
      (r s : List A) → length r ≡ n - i → length s ≡ k - i → nat_cmp n k ≡ tree_cmp (g r) (g s)
  rests less same greater [] [] e h = sym (nat_cmp_is n k Equal (omega (arith, shorter, reached, within, e, h))) ∙ sym same
  rests less same greater [] (y ∷ s) e h = sym (nat_cmp_is n k Less (omega (arith, shorter, reached, within, e, h))) ∙ sym (less y s)
  rests less same greater (x ∷ r) [] e h = sym (nat_cmp_is n k Greater (omega (arith, shorter, reached, within, e, h))) ∙ sym (greater x r)
  rests less same greater (x ∷ r) (y ∷ s) e h = absurd (omega (arith, shorter, reached, within, e, h))

-- lists of trees
pub ends : (xs ys : List Plain) (i m : ℕ) → m ≡ min (length xs) (length ys) → m ≤ i → i ≤ m → nat_cmp (length xs) (length ys) ≡ tree_cmp (listed (drop i xs)) (listed (drop i ys))
ends xs ys i m a b c = rests listed (length xs) (length ys) i m a b c (λ y s. refl) refl (λ x r. refl) (drop i xs) (drop i ys) (length-drop i xs) (length-drop i ys)

-- lists of parts
pub part_ends : {A : Type 0} (f : A → Plain) (xs ys : List A) (i m : ℕ) → m ≡ min (length xs) (length ys) → m ≤ i → i ≤ m → nat_cmp (length xs) (length ys) ≡ tree_cmp (listed (each f (drop i xs))) (listed (each f (drop i ys)))
part_ends f xs ys i m a b c = rests (λ l. listed (each f l)) (length xs) (length ys) i m a b c (λ y s. refl) refl (λ x r. refl) (drop i xs) (drop i ys) (length-drop i xs) (length-drop i ys)
