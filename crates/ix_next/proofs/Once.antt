-- What stands once, item by item.
use Rattle.std.proofs.Common.{◌≡◌, ℕ, Bool, true, false, not, cond, List, [], ◌∷◌, ◌++◌, filter, ◌⊎◌, inl, inr, refl, sym, ap, ◌∙◌, subst}
use Rattle.std.specs.List.{list_any}
use Rattle.ix_words.specs.Each.{Member, here, there}
use Rattle.ix_words.proofs.Canon.{Member-cases}
use Rattle.ix_words.proofs.Deciding.{any_from, any_says}
use Rattle.ix_values.specs.Order.{text_eq}
use Rattle.ix_values.specs.lemmas.Order.{text_eq-decides}
use Rattle.ix_next.specs.Candidates.{once}
use Rattle.ix_next.proofs.Menus.{once_keeps}
use Rattle.ix_next.proofs.Terms.{once_members}

pub filter_push : {A : Type 0} (test : A → Bool) (w : List A) (a : A) → filter test (w ++ a ∷ []) ≡ filter test w ++ cond (test a) (a ∷ []) []
filter_push test [] a = refl
filter_push test (b ∷ w) a = by (test b) (filter_push test w a)
  where
    by : (c : Bool) → filter test (w ++ a ∷ []) ≡ filter test w ++ cond (test a) (a ∷ []) [] → cond c (b ∷ filter test (w ++ a ∷ [])) (filter test (w ++ a ∷ [])) ≡ cond c (b ∷ filter test w) (filter test w) ++ cond (test a) (a ∷ []) []
    by true e = ap (λ u. b ∷ u) e
    by false e = e

no_more : {A : Type 0} (w : List A) → w ++ [] ≡ w
no_more [] = refl
no_more (a ∷ w) = ap (λ u. a ∷ u) (no_more w)

module _ {A : Type 0} (same : A → A → Bool) (tells : (a b : A) → same a b ≡ true → a ≡ b) (itself : (a : A) → same a a ≡ true) where
  either : (w : List A) (a : A) → Member a w ⊎ (¬ Member a w)
  either w a = by (list_any (same a) w) refl
    where
      by : (b : Bool) → list_any (same a) w ≡ b → Member a w ⊎ (¬ Member a w)
      by true e = let some = (any_says (same a) w).0 e in inl (subst (λ c. Member c w) (sym (tells a some.which some.passes)) some.among)
      by false e = inr (λ m. let h : list_any (same a) w ≡ true = any_from (same a) w m (itself a) in cc)

  differ : (a b : A) → ¬ (a ≡ b) → same a b ≡ false
  differ a b d = by (same a b) refl
    where
      by : (c : Bool) → same a b ≡ c → same a b ≡ false
      by true e = absurd (d (tells a b e))
      by false e = e

  -- an item that stands there changes nothing, and any other goes last
  once_first : (w : List A) (a : A) → (¬ Member a w) → once same (w ++ a ∷ []) ≡ once same w ++ a ∷ []
  once_first [] a absent = refl
  once_first (b ∷ w) a absent =
      ap (λ u. b ∷ filter (λ c. not (same b c)) u) (once_first w a (λ m. absent (there m)))
      ∙ ap (λ u. b ∷ u) (filter_push (λ c. not (same b c)) (once same w) a)
      ∙ ap (λ t. b ∷ (filter (λ c. not (same b c)) (once same w) ++ cond (not t) (a ∷ []) [])) (differ b a (λ e. absent (subst (λ c. Member c (b ∷ w)) e here)))

  once_again : (w : List A) (a : A) → Member a w → once same (w ++ a ∷ []) ≡ once same w
  once_again [] a m = elim m [ ]
  once_again (b ∷ w) a m = elim (either w a) [
    | inl n ↦ ap (λ u. b ∷ filter (λ c. not (same b c)) u) (once_again w a n)
    | inr absent ↦ elim (Member-cases m) [
      | inl e ↦
          ap (λ u. b ∷ filter (λ c. not (same b c)) u) (once_first w a absent)
          ∙ ap (λ u. b ∷ u) (filter_push (λ c. not (same b c)) (once same w) a)
          ∙ ap (λ t. b ∷ (filter (λ c. not (same b c)) (once same w) ++ cond (not t) (a ∷ []) [])) (subst (λ c. same b c ≡ true) (sym e) (itself b))
          ∙ ap (λ u. b ∷ u) (no_more (filter (λ c. not (same b c)) (once same w)))
      | inr n ↦ absurd (absent n)
    ]
  ]

  -- so each item goes last unless it is there
  pub once_push : (w : List A) (a : A) → once same (w ++ a ∷ []) ≡ cond (list_any (same a) (once same w)) (once same w) (once same w ++ a ∷ [])
  once_push w a = elim (either w a) [
    | inl m ↦ once_again w a m ∙ ap (λ b. cond b (once same w) (once same w ++ a ∷ [])) (sym (any_from (same a) (once same w) (once_keeps same tells w m) (itself a)))
    | inr absent ↦ once_first w a absent ∙ ap (λ b. cond b (once same w) (once same w ++ a ∷ [])) (sym (none absent))
  ]
    where
      none : (¬ Member a w) → list_any (same a) (once same w) ≡ false
      none absent = by (list_any (same a) (once same w)) refl
        where
          by : (b : Bool) → list_any (same a) (once same w) ≡ b → list_any (same a) (once same w) ≡ false
          by true e = let some = (any_says (same a) (once same w)).0 e in absurd (absent (once_members same w (subst (λ c. Member c (once same w)) (sym (tells a some.which some.passes)) some.among)))
          by false e = e

-- of texts
pub texts_push : (w : List (List ℕ)) (v : List ℕ) → once text_eq (w ++ v ∷ []) ≡ cond (list_any (text_eq v) (once text_eq w)) (once text_eq w) (once text_eq w ++ v ∷ [])
texts_push w v = once_push text_eq (λ a b. (text_eq-decides a b).0) (λ a. (text_eq-decides a a).1 refl) w v
