-- Answers of `||` and `&&`, and tests over made lists.
use Rattle.std.proofs.Common.{◌≡◌, Bool, true, false, ◌&&◌, ◌||◌, List, [], ◌∷◌, map, refl, sym, ap, ◌∙◌}
use Rattle.std.specs.List.{list_any, list_all}

-- Answers of `||` and `&&`, from what was asked first

pub either_then : (r a b : Bool) → r ≡ true → r ≡ a → r ≡ (a || b)
either_then r a b h k = h ∙ ap (λ x. x || b) (sym h ∙ k)

pub either_else : (r s a b : Bool) → r ≡ false → r ≡ a → s ≡ b → s ≡ (a || b)
either_else r s a b h k l = l ∙ ap (λ x. x || b) (sym h ∙ k)

pub both_then : (r s a b : Bool) → r ≡ true → r ≡ a → s ≡ b → s ≡ (a && b)
both_then r s a b h k l = l ∙ ap (λ x. x && b) (sym h ∙ k)

pub both_else : (r a b : Bool) → r ≡ false → r ≡ a → r ≡ (a && b)
both_else r a b h k = h ∙ ap (λ x. x && b) (sym h ∙ k)

-- Tests over parts

module _ {A B : Type 0} (f : B → Bool) (g : A → B) (q : A → Bool) (same : (x : A) → q x ≡ f (g x)) where
  pub any_made : (xs : List A) → list_any q xs ≡ list_any f (map g xs)
  any_made [] = refl
  any_made (x ∷ xs) = ap (λ b. b || list_any q xs) (same x) ∙ ap (λ b. f (g x) || b) (any_made xs)

  pub all_made : (xs : List A) → list_all q xs ≡ list_all f (map g xs)
  all_made [] = refl
  all_made (x ∷ xs) = ap (λ b. b && list_all q xs) (same x) ∙ ap (λ b. f (g x) && b) (all_made xs)
