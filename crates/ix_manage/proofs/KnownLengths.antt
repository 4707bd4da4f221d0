-- Lists of a known length.
use Rattle.std.proofs.Common.{◌≡◌, ◌<◌, ◌≤◌, List, [], ◌∷◌, length, get_or, arith}

module _ {A : Type 0} where
  pub two_items : (xs : List A) (a b : A) → 2 ≤ length xs → length xs < 3 → a ≡ get_or xs 0 a
      → b ≡ get_or xs 1 b → xs ≡ a ∷ b ∷ []
  two_items [] a b low high p q = absurd (omega arith)
  two_items (x ∷ []) a b low high p q = absurd (omega arith)
  two_items (x ∷ y ∷ []) a b low high p q = cc
  two_items (x ∷ y ∷ z ∷ zs) a b low high p q = absurd (omega arith)

  pub three_items : (xs : List A) (a b c : A) → 3 ≤ length xs → length xs < 4 → a ≡ get_or xs 0 a → b ≡ get_or xs 1 b → c ≡ get_or xs 2 c → xs ≡ a ∷ b ∷ c ∷ []
  three_items [] a b c low high p q r = absurd (omega arith)
  three_items (x ∷ []) a b c low high p q r = absurd (omega arith)
  three_items (x ∷ y ∷ []) a b c low high p q r = absurd (omega arith)
  three_items (x ∷ y ∷ z ∷ []) a b c low high p q r = cc
  three_items (x ∷ y ∷ z ∷ w ∷ ws) a b c low high p q r = absurd (omega arith)
