-- A renaming that carries new values to other new values, and keeps the known ones.
use Rattle.std.proofs.Common.{◌≡◌, ◌≢◌, ℕ, zero, suc, Bool, true, false, cond, List, [], ◌∷◌, ◌⊎◌, inl, inr, refl, sym, ap, ◌∙◌, subst, arith}
use Rattle.ix_words.specs.Each.{Member, here, there}
use Rattle.ix_values.specs.Order.{text_eq}
use Rattle.ix_values.specs.lemmas.Order.{text_eq-decides}
use Rattle.ix_next.specs.declared.term.Term.{Term}
use Rattle.ix_next.specs.declared.term.Term.TheVariants.{Known, New}
use Rattle.ix_next.proofs.Renaming.{Renaming}

pub same_text : (u v : List ℕ) → (u ≡ v) ⊎ (u ≢ v)
same_text u v = chosen (text_eq u v) refl
  where
    chosen : (b : Bool) → text_eq u v ≡ b → (u ≡ v) ⊎ (u ≢ v)
    chosen true h = inl ((text_eq-decides u v).0 h)
    chosen false h = inr (λ e. let k : text_eq u v ≡ true = (text_eq-decides u v).1 e in cc)

same_number : (i j : ℕ) → (i ≡ j) ⊎ (i ≢ j)
same_number zero zero = inl refl
same_number zero (suc j) = inr (λ e. omega (arith, e))
same_number (suc i) zero = inr (λ e. omega (arith, e))
same_number (suc i) (suc j) = elim (same_number i j) [ inl e ↦ inl (ap suc e) | inr d ↦ inr (λ e. d (omega (arith, e))) ]

-- u for v and v for u
abbrev swapped : List ℕ → List ℕ → List ℕ → List ℕ
swapped u v x = cond (text_eq x u) v (cond (text_eq x v) u x)

swapped_first : (u v x : List ℕ) → x ≡ u → swapped u v x ≡ v
swapped_first u v x e = ap (λ b. cond b v (cond (text_eq x v) u x)) ((text_eq-decides x u).1 e)

not_same : (x y : List ℕ) → x ≢ y → text_eq x y ≡ false
not_same x y d = chosen (text_eq x y) refl
  where
    chosen : (b : Bool) → text_eq x y ≡ b → text_eq x y ≡ false
    chosen true h = absurd (d ((text_eq-decides x y).0 h))
    chosen false h = h

swapped_second : (u v x : List ℕ) → x ≢ u → x ≡ v → swapped u v x ≡ u
swapped_second u v x d e = ap (λ b. cond b v (cond (text_eq x v) u x)) (not_same x u d) ∙ ap (λ b. cond b u x) ((text_eq-decides x v).1 e)

swapped_other : (u v x : List ℕ) → x ≢ u → x ≢ v → swapped u v x ≡ x
swapped_other u v x d f = ap (λ b. cond b v (cond (text_eq x v) u x)) (not_same x u d) ∙ ap (λ b. cond b u x) (not_same x v f)

swapped_twice : (u v x : List ℕ) → swapped u v (swapped u v x) ≡ x
swapped_twice u v x = elim (same_text x u) [
  | inl e ↦ ap (swapped u v) (swapped_first u v x e) ∙ elim (same_text v u) [
    | inl f ↦ swapped_first u v v f ∙ f ∙ sym e
    | inr d ↦ swapped_second u v v d refl ∙ sym e
  ]
  | inr d ↦ elim (same_text x v) [
    | inl f ↦ ap (swapped u v) (swapped_second u v x d f) ∙ swapped_first u v u refl ∙ sym f
    | inr g ↦ ap (swapped u v) (swapped_other u v x d g) ∙ swapped_other u v x d g
  ]
]

-- first this renaming, and then u for v and v for u
abbrev swapping : Renaming → List ℕ → List ℕ → Renaming
swapping r u v = record {
  to = λ x. swapped u v (r.to x);
  back = λ x. r.back (swapped u v x);
  forth_again = λ x. ap (swapped u v) (r.forth_again (swapped u v x)) ∙ swapped_twice u v x;
  back_again = λ x. ap r.back (swapped_twice u v (r.to x)) ∙ r.back_again x;
}

-- the new values of the terms aren't known, and differ where their numbers do
pub record AreNew (known : List (List ℕ)) (terms : List Term) (new : ℕ → List ℕ) : Type 0 where
  pub unknown : (i : ℕ) → Member (New i) terms → ¬ Member (new i) known
  pub apart : (i j : ℕ) → Member (New i) terms → Member (New j) terms → new i ≡ new j → i ≡ j

new_behind : {known : List (List ℕ)} {terms : List Term} {new : ℕ → List ℕ} (t : Term) → AreNew known (t ∷ terms) new → AreNew known terms new
new_behind t h = record { unknown = λ i m. h.unknown i (there m); apart = λ i j m n. h.apart i j (there m) (there n) }

-- the renaming carries each new value to the other one of its number, and keeps the known values
pub record Carries (known : List (List ℕ)) (terms : List Term) (new other : ℕ → List ℕ) : Type 0 where
  pub by : Renaming
  pub keeps : (v : List ℕ) → Member v known → by.to v ≡ v
  pub carries : (i : ℕ) → Member (New i) terms → by.to (new i) ≡ other i

-- whether a new value is among the terms
has_new : (j : ℕ) (terms : List Term) → Member (New j) terms ⊎ (¬ Member (New j) terms)
has_new j [] = inr (λ m. elim m [ ])
has_new j (Known v ∷ terms) = elim (has_new j terms) [ inl m ↦ inl (there m) | inr absent ↦ inr (λ m. absent (behind m)) ]
  where
    behind : Member (New j) (Known v ∷ terms) → Member (New j) terms
    behind (there m) = m
has_new j (New i ∷ terms) = elim (same_number i j) [
  | inl e ↦ inl (subst (λ k. Member (New j) (New k ∷ terms)) (sym e) here)
  | inr d ↦ elim (has_new j terms) [ inl m ↦ inl (there m) | inr absent ↦ inr (λ m. neither d absent m) ]
]
  where
    neither : {k : ℕ} {ts : List Term} → k ≢ j → ¬ Member (New j) ts → ¬ Member (New j) (New k ∷ ts)
    neither d absent here = d refl
    neither d absent (there m) = absent m

pub carried : (known : List (List ℕ)) (terms : List Term) (new other : ℕ → List ℕ) → AreNew known terms new → AreNew known terms other → Carries known terms new other
carried known [] new other h g = record {
  by = record { to = λ v. v; back = λ v. v; forth_again = λ v. refl; back_again = λ v. refl };
  keeps = λ v m. refl;
  carries = λ i m. elim m [ ];
}
carried known (Known u ∷ terms) new other h g =
    let rest = carried known terms new other (new_behind (Known u) h) (new_behind (Known u) g) in
    record { by = rest.by; keeps = rest.keeps; carries = λ i m. rest.carries i (behind m) }
  where
    behind : {i : ℕ} → Member (New i) (Known u ∷ terms) → Member (New i) terms
    behind (there m) = m
carried known (New j ∷ terms) new other h g = chosen (has_new j terms) (carried known terms new other (new_behind (New j) h) (new_behind (New j) g))
  where
    first_too : (r : Renaming) → ((i : ℕ) → Member (New i) terms → r.to (new i) ≡ other i) → r.to (new j) ≡ other j → (i : ℕ) → Member (New i) (New j ∷ terms) → r.to (new i) ≡ other i
    first_too r later first i here = first
    first_too r later first i (there m) = later i m

    chosen : Member (New j) terms ⊎ (¬ Member (New j) terms) → Carries known terms new other → Carries known (New j ∷ terms) new other
    chosen (inl m) rest = record { by = rest.by; keeps = rest.keeps; carries = first_too rest.by rest.carries (rest.carries j m) }
    chosen (inr absent) rest = record {
      by = swapping rest.by (rest.by.to (new j)) (other j);
      keeps = λ v m.
          ap (swapped (rest.by.to (new j)) (other j)) (rest.keeps v m)
          ∙ swapped_other (rest.by.to (new j)) (other j) v
          (λ e. h.unknown j here (subst (λ x. Member x known) (sym (rest.by.back_again v) ∙ ap rest.by.back (rest.keeps v m ∙ e) ∙ rest.by.back_again (new j)) m))
          (λ e. g.unknown j here (subst (λ x. Member x known) e m));
      carries = first_too (swapping rest.by (rest.by.to (new j)) (other j))
          (λ i m.
          ap (swapped (rest.by.to (new j)) (other j)) (rest.carries i m)
          ∙ swapped_other (rest.by.to (new j)) (other j) (other i)
          (λ e. absent (subst (λ k. Member (New k) terms) (h.apart i j (there m) here (sym (rest.by.back_again (new i)) ∙ ap rest.by.back (rest.carries i m ∙ e) ∙ rest.by.back_again (new j))) m))
          (λ e. absent (subst (λ k. Member (New k) terms) (g.apart i j (there m) here e) m)))
          (swapped_first (rest.by.to (new j)) (other j) (rest.by.to (new j)) refl);
    }
