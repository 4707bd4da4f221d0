-- The first item that passes a test, and the only value in a list.
use Rattle.std.proofs.Common.{◌≡◌, ℕ, Bool, true, false, not, cond, ◌&&◌, ◌||◌, List, [], ◌∷◌, ◌++◌, Some, None, filter, refl, sym, ap, ◌∙◌, if◌then◌else◌}
use Rattle.std.specs.List.{list_all}
use Rattle.ix_values.specs.Order.{text_eq}
use Rattle.ix_values.specs.lemmas.Order.{text_eq-decides}
use Rattle.ix_why.specs.Blames.{first_that, one_value}

module _ {A : Type 0} (test : A → Bool) where
  -- the first of a list that is made of two
  pub first_left : (xs ys : List A) {x : A} → first_that test xs ≡ Some x → first_that test (xs ++ ys) ≡ Some x
  first_left [] ys h = absurd (cc)
  first_left (z ∷ xs) ys {x} h = chosen (test z) (first_left xs ys {x = x}) h
    where
      chosen : (b : Bool) → (first_that test xs ≡ Some x → first_that test (xs ++ ys) ≡ Some x) → (if b then Some z else first_that test xs) ≡ Some x → (if b then Some z else first_that test (xs ++ ys)) ≡ Some x
      chosen true later h = h
      chosen false later h = later h

  pub first_right : (xs ys : List A) → first_that test xs ≡ None → first_that test (xs ++ ys) ≡ first_that test ys
  first_right [] ys h = refl
  first_right (z ∷ xs) ys h = chosen (test z) (first_right xs ys) h
    where
      chosen : (b : Bool) → (first_that test xs ≡ None → first_that test (xs ++ ys) ≡ first_that test ys) → (if b then Some z else first_that test xs) ≡ None → (if b then Some z else first_that test (xs ++ ys)) ≡ first_that test ys
      chosen true later h = absurd (cc)
      chosen false later h = later h

module _ (test : List ℕ → Bool) where
  all_kept : (v : List ℕ) (vs : List (List ℕ)) → list_all (text_eq v) (filter test vs) ≡ list_all (λ u. not (test u) || text_eq v u) vs
  all_kept v [] = refl
  all_kept v (u ∷ vs) = chosen (test u) (all_kept v vs)
    where
      chosen : (b : Bool) → list_all (text_eq v) (filter test vs) ≡ list_all (λ u. not (test u) || text_eq v u) vs
          → list_all (text_eq v) (cond b (u ∷ filter test vs) (filter test vs)) ≡ (not b || text_eq v u) && list_all (λ u. not (test u) || text_eq v u) vs
      chosen true h = ap (λ b. text_eq v u && b) h
      chosen false h = h

  pub no_value : (vs : List (List ℕ)) → first_that test vs ≡ None → one_value (filter test vs) ≡ None
  no_value [] h = refl
  no_value (u ∷ vs) h = chosen (test u) (no_value vs) h
    where
      chosen : (b : Bool) → (first_that test vs ≡ None → one_value (filter test vs) ≡ None) → (if b then Some u else first_that test vs) ≡ None → one_value (cond b (u ∷ filter test vs) (filter test vs)) ≡ None
      chosen true later h = absurd (cc)
      chosen false later h = later h

  itself : (v : List ℕ) → text_eq v v ≡ true
  itself v = (text_eq-decides v v).1 refl

  -- the first one is the only one where each is it
  pub first_value : (vs : List (List ℕ)) (v : List ℕ) → first_that test vs ≡ Some v → one_value (filter test vs) ≡ (if list_all (λ u. not (test u) || text_eq v u) vs then Some v else None)
  first_value [] v h = absurd (cc)
  first_value (u ∷ vs) v h = chosen (test u) (first_value vs v) h
    where
      all : List (List ℕ) → Bool
      all us = list_all (λ w. not (test w) || text_eq v w) us

      chosen : (b : Bool) → (first_that test vs ≡ Some v → one_value (filter test vs) ≡ (if all vs then Some v else None)) → (if b then Some u else first_that test vs) ≡ Some v →
          one_value (cond b (u ∷ filter test vs) (filter test vs)) ≡ (if (not b || text_eq v u) && all vs then Some v else None)
      chosen true later h =
          let same : u ≡ v = cc in
          ap (λ w. if list_all (text_eq w) (filter test vs) then Some w else None) same
          ∙ ap (λ (b : Bool). if b then Some v else None) (all_kept v vs ∙ ap (λ b. b && all vs) (sym (itself v) ∙ ap (text_eq v) (sym same)))
      chosen false later h = later h
