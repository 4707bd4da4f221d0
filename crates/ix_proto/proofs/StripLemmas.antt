-- What stands behind a front of a text.
use Rattle.std.proofs.Common.{◌≡◌, ◌≢◌, ℕ, ◌+◌, Bool, true, false, List, ◌++◌, length, take, drop, Option, Some, None, MatchOption, Bor, sym, ◌∙◌, ap, arith, take-append-drop}
use Rattle.std.proofs.lemmas.Grind.{common_steps}
use Rattle.ix_values.specs.Order.{text_eq}
use Rattle.ix_values.specs.lemmas.Order.{text_eq-decides}

take_front : (p tail : List ℕ) → take (length p) (p ++ tail) ≡ p
take_front p tail = grind (arith, common_steps)

differs : {b : Bool} → b ≡ false → b ≡ true → ⊥
differs e f = cc

-- what `strip_prefix` gives
pub stripped : (s p : List ℕ) (r : Option (Bor (List ℕ)))
    → MatchOption r (text_eq (take (length p) s) p ≡ false) (λ x. (text_eq (take (length p) s) p ≡ true) × (x.now ≡ drop (length p) s) × (length x.now + length p ≡ length s))
    → MatchOption r ((tail : List ℕ) → s ≢ p ++ tail) (λ tail. s ≡ p ++ tail.now)
stripped s p None h =
    λ tail e. differs h ((text_eq-decides (take (length p) s) p).1 (ap (take (length p)) e ∙ take_front p tail))
stripped s p (Some x) h =
    sym (take-append-drop (length p) s)
    ∙ ap (λ z. z ++ drop (length p) s) ((text_eq-decides (take (length p) s) p).0 h.0)
    ∙ ap (λ z. p ++ z) (sym h.1)
