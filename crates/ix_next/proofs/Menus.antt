-- What stands on the menu may come, and what may come of the candidates stands there.
use Rattle.std.proofs.Common.{◌≡◌, Bool, true, false, not, List, [], ◌∷◌, filter, inl, inr, refl, sym, ap}
use Rattle.ix_words.specs.Each.{Member, here, there}
use Rattle.ix_words.specs.Parts.{Projection, ended, kept, left_out}
use Rattle.ix_words.proofs.Canon.{Member-cases, Member-same}
use Rattle.ix_can.proofs.Lists.{filter-Member}
use Rattle.ix_next.specs.Candidates.{once}

module _ {A : Type 0} {In : A → Type 0} where
  pub projection_has : {w u : List A} → Projection In w u → {a : A} → Member a u → Member a w × In a
  projection_has ended m = elim m [ ]
  projection_has (kept i p) here = (here, i)
  projection_has (kept i p) (there m) = let k = projection_has p m in (there k.0, k.1)
  projection_has (left_out o p) m = let k = projection_has p m in (there k.0, k.1)

  pub projection_keeps : {w u : List A} → Projection In w u → {a : A} → Member a w → In a → Member a u
  projection_keeps ended m i = elim m [ ]
  projection_keeps (kept j p) here i = here
  projection_keeps (kept j p) (there m) i = there (projection_keeps p m i)
  projection_keeps (left_out o p) here i = absurd (o i)
  projection_keeps (left_out o p) (there m) i = projection_keeps p m i

-- each item stands in the list of those that stand once
pub once_keeps : {A : Type 0} (same : A → A → Bool) → ((a b : A) → same a b ≡ true → a ≡ b) → (w : List A) {a : A} → Member a w → Member a (once same w)
once_keeps same tells [] m = elim m [ ]
once_keeps {A} same tells (b ∷ w) {a} m = elim (Member-cases m) [
  | inl e ↦ Member-same (filter (λ c. not (same b c)) (once same w)) e
  | inr n ↦ by (same b a) refl (once_keeps same tells w n)
]
  where
    by : (test : Bool) → same b a ≡ test → Member a (once same w) → Member a (b ∷ filter (λ c. not (same b c)) (once same w))
    by true e n = Member-same (filter (λ c. not (same b c)) (once same w)) (sym (tells b a e))
    by false e n = there (filter-Member (λ c. not (same b c)) n (ap not e))
