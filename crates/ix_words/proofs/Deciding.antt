-- What a test decides: tests that are or'ed and and'ed, and a list of which some member passes.
use Rattle.std.proofs.Common.{◌≡◌, ◌↔◌, ◌⊎◌, inl, inr, Bool, true, false, ◌&&◌, ◌||◌, List, [], ◌∷◌, refl, sym, ap, ◌∙◌, true≢false}
use Rattle.std.specs.List.{list_any}
use Rattle.ix_words.specs.Each.{Member, here, there}
use Rattle.ix_words.proofs.Canon.{Member-cases}

-- Equivalences

pub itself : {A : Type 0} → A ↔ A
itself = (λ a. a, λ a. a)

pub iff_trans : {A B C : Type 0} → A ↔ B → B ↔ C → A ↔ C
iff_trans f g = (λ a. g.0 (f.0 a), λ c. f.1 (g.1 c))

pub iff_sym : {A B : Type 0} → A ↔ B → B ↔ A
iff_sym f = (f.1, f.0)

pub one_test : (a b : Bool) → (a ≡ true) ↔ (b ≡ true) → a ≡ b
one_test true b f = sym (f.0 refl)
one_test false true f = f.1 refl
one_test false false f = refl

pub when_either : (a b : Bool) {A B : Type 0} → (a ≡ true) ↔ A → (b ≡ true) ↔ B → (a || b ≡ true) ↔ (A ⊎ B)
when_either true b f g = (λ e. inl (f.0 refl), λ h. refl)
when_either false b f g = (λ e. inr (g.0 e), λ h. elim h [ inl k ↦ absurd (true≢false (sym (f.1 k))) | inr k ↦ g.1 k ])

pub when_both : (a b : Bool) {A B : Type 0} → (a ≡ true) ↔ A → (b ≡ true) ↔ B → (a && b ≡ true) ↔ (A × B)
when_both true b f g = (λ e. (f.0 refl, g.0 e), λ h. g.1 h.1)
when_both false b f g = (λ e. absurd (true≢false (sym e)), λ h. absurd (true≢false (sym (f.1 h.0))))

or_first : (a b : Bool) → a ≡ true → a || b ≡ true
or_first true b e = refl
or_first false b e = absurd (true≢false (sym e))

or_second : (a b : Bool) → b ≡ true → a || b ≡ true
or_second true b e = refl
or_second false b e = e

-- Members that pass

-- some member passes the test
pub record SomePasses {A : Type 0} (test : A → Bool) (w : List A) : Type 0 where
  pub which : A
  pub among : Member which w
  pub passes : test which ≡ true

module _ {A : Type 0} (test : A → Bool) where
  first_passes : (a : A) (w : List A) (b : Bool) → test a ≡ b → (list_any test w ≡ true → SomePasses test w) → b || list_any test w ≡ true → SomePasses test (a ∷ w)
  first_passes a w true h later e = record { which = a; among = here; passes = h }
  first_passes a w false h later e = let s = later e in record { which = s.which; among = there s.among; passes = s.passes }

  pub any_to : (w : List A) → list_any test w ≡ true → SomePasses test w
  any_to [] e = absurd (true≢false (sym e))
  any_to (a ∷ w) e = first_passes a w (test a) refl (any_to w) e

  pub any_from : (w : List A) {a : A} → Member a w → test a ≡ true → list_any test w ≡ true
  any_from [] m e = elim m [ ]
  any_from (b ∷ w) {a} m e =
      elim (Member-cases m) [
        | inl same ↦ or_first (test b) (list_any test w) (ap test (sym same) ∙ e)
        | inr n ↦ or_second (test b) (list_any test w) (any_from w n e)
      ]

  pub any_says : (w : List A) → (list_any test w ≡ true) ↔ SomePasses test w
  any_says w = (any_to w, λ s. any_from w s.among s.passes)
