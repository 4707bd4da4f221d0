-- The laws of `==` of terms and of candidates, and what is hashed of a candidate.
use Rattle.std.specs.Prelude.{◌≡◌, ℕ, Bool, true, false, ◌&&◌, ◌==◌, List, [], ◌∷◌, map as each}
use Rattle.std.specs.Prelude.{IsTrue, refl}
use Rattle.std.specs.Cmp.{IsEquivalence, IsPartialEquivalence, and_equiv, on_equiv}
use Rattle.std.specs.Cmp.{partial_equiv_from_equiv, nat_eq_equiv}
use Rattle.std.specs.Cmp.Lexicographic.{lists_equiv, pointwise}
use Rattle.std.proofs.lemmas.Bool.{eqb-true}
use Rattle.ix_values.specs.Order.{text_eq}
use Rattle.ix_values.specs.lemmas.Order.{text_eq-decides, both_true}
use Rattle.ix_next.specs.declared.term.Term.{Term}
use Rattle.ix_next.specs.declared.term.Term.TheVariants.{Known, New}
use Rattle.ix_next.specs.Candidates.{PlainCandidate, candidate_of, term_eq, candidate_eq}

texts : IsEquivalence text_eq
texts = lists_equiv nat_eq_equiv

term_refl : (s : Term) → term_eq s s ≡ true
term_refl (Known u) = texts.refl u
term_refl (New i) = nat_eq_equiv.refl i

term_symm : (s t : Term) → term_eq s t ≡ term_eq t s
term_symm (Known u) (Known v) = texts.symm u v
term_symm (Known u) (New j) = refl
term_symm (New i) (Known v) = refl
term_symm (New i) (New j) = nat_eq_equiv.symm i j

term_congr : (s t u : Term) → term_eq s t ≡ true → term_eq s u ≡ term_eq t u
term_congr (Known u) (Known v) (Known w) h = texts.congr u v w h
term_congr (Known u) (Known v) (New k) h = refl
term_congr (Known u) (New j) w h = cc
term_congr (New i) (Known v) w h = cc
term_congr (New i) (New j) (Known w) h = refl
term_congr (New i) (New j) (New k) h = nat_eq_equiv.congr i j k h

-- the laws of `Eq` and of `PartialEq`
pub term_eq-equiv : IsEquivalence term_eq
term_eq-equiv = record { refl = term_refl; symm = term_symm; congr = term_congr }

pub term_eq-partial : IsPartialEquivalence term_eq
term_eq-partial = partial_equiv_from_equiv term_eq-equiv

pub candidate_eq-equiv : IsEquivalence candidate_eq
candidate_eq-equiv = and_equiv (on_equiv (λ c. c.name) texts)
    (on_equiv (λ c. c.terms) (lists_equiv term_eq-equiv))

pub candidate_eq-partial : IsPartialEquivalence candidate_eq
candidate_eq-partial = partial_equiv_from_equiv candidate_eq-equiv

tells_terms : (s t : List Term) → pointwise term_eq s t ≡ true → s ≡ t
tells_terms [] [] h = refl
tells_terms [] (b ∷ t) h = cc
tells_terms (a ∷ s) [] h = cc
tells_terms (Known u ∷ s) (Known v ∷ t) h =
    let parts = both_true (text_eq u v) (pointwise term_eq s t) h in
    λ i. Known ((text_eq-decides u v).0 parts.0 i) ∷ tells_terms s t parts.1 i
tells_terms (Known u ∷ s) (New j ∷ t) h = cc
tells_terms (New i ∷ s) (Known v ∷ t) h = cc
tells_terms (New j ∷ s) (New k ∷ t) h =
    let parts = both_true (j == k) (pointwise term_eq s t) h in
    λ i. New (eqb-true j k parts.0 i) ∷ tells_terms s t parts.1 i

-- candidates compare as equal only where they are the same
pub candidate_eq-tells : (c d : PlainCandidate) → candidate_eq c d ≡ true → c ≡ d
candidate_eq-tells c d h =
    let parts = both_true (text_eq c.name d.name) (pointwise term_eq c.terms d.terms) h in
    λ i. candidate_of ((text_eq-decides c.name d.name).0 parts.0 i)
    (tells_terms c.terms d.terms parts.1 i)

-- what is hashed of a term: its value, or its number
abbrev pub hashed : Term → List ℕ
hashed (Known v) = v
hashed (New n) = n ∷ []

-- what is hashed of a candidate: its name and its terms
abbrev pub candidate_input : PlainCandidate → List (List ℕ)
candidate_input c = c.name ∷ each hashed c.terms

-- equal candidates are hashed alike
pub candidate_input-respects_eq : (c d : PlainCandidate) → IsTrue (candidate_eq c d)
    → candidate_input c ≡ candidate_input d
candidate_input-respects_eq c d same = λ i. candidate_input (candidate_eq-tells c d same i)
