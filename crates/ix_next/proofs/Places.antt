-- Lists of different values, and the places of values in them.
use Rattle.std.proofs.Common.{◌≡◌, ◌≢◌, ℕ, ◌+◌, ◌<◌, ◌≤◌, zero, suc, max, List, [], ◌∷◌, ◌++◌, length, replicate, ◌⊎◌, inl, inr, refl, sym, ap, ◌∙◌, subst, arith}
use Rattle.std.proofs.lemmas.List.{length-replicate}
use Rattle.ix_words.specs.Each.{Member, here, there}
use Rattle.ix_next.proofs.Swaps.{same_text}

-- v stands at the place i
abbrev pub StandsAt : List (List ℕ) → ℕ → List ℕ → Type 0
StandsAt [] i v = ⊥
StandsAt (u ∷ us) zero v = u ≡ v
StandsAt (u ∷ us) (suc i) v = StandsAt us i v

pub stands_before : (us vs : List (List ℕ)) (i : ℕ) (v : List ℕ) → StandsAt us i v → StandsAt (us ++ vs) i v
stands_before [] vs i v h = absurd h
stands_before (u ∷ us) vs zero v h = h
stands_before (u ∷ us) vs (suc i) v h = stands_before us vs i v h

pub stands_last : (us : List (List ℕ)) (v : List ℕ) → StandsAt (us ++ v ∷ []) (length us) v
stands_last [] v = refl
stands_last (u ∷ us) v = stands_last us v

pub stands_below : (us : List (List ℕ)) (i : ℕ) (v : List ℕ) → StandsAt us i v → i < length us
stands_below [] i v h = absurd h
stands_below (u ∷ us) zero v h = omega arith
stands_below (u ∷ us) (suc i) v h = let k = stands_below us i v h in omega (arith, k)

pub stands_among : (us : List (List ℕ)) (i : ℕ) {v : List ℕ} → StandsAt us i v → Member v us
stands_among [] i h = absurd h
stands_among (u ∷ us) zero h = subst (λ w. Member w (u ∷ us)) h here
stands_among (u ∷ us) (suc i) h = there (stands_among us i h)

pub stands_once : (us : List (List ℕ)) (i : ℕ) {u v : List ℕ} → StandsAt us i u → StandsAt us i v → u ≡ v
stands_once [] i h k = absurd h
stands_once (w ∷ us) zero h k = sym h ∙ k
stands_once (w ∷ us) (suc i) h k = stands_once us i h k

-- each value stands once
abbrev pub AreDistinct : List (List ℕ) → Type 0
AreDistinct [] = Unit {0}
AreDistinct (u ∷ us) = (¬ Member u us) × AreDistinct us

pub distinct_places : (us : List (List ℕ)) (i j : ℕ) (v : List ℕ) → AreDistinct us → StandsAt us i v → StandsAt us j v → i ≡ j
distinct_places [] i j v d h k = absurd h
distinct_places (u ∷ us) zero zero v d h k = refl
distinct_places (u ∷ us) zero (suc j) v d h k = absurd (d.0 (subst (λ w. Member w us) (sym h) (stands_among us j k)))
distinct_places (u ∷ us) (suc i) zero v d h k = absurd (d.0 (subst (λ w. Member w us) (sym k) (stands_among us i h)))
distinct_places (u ∷ us) (suc i) (suc j) v d h k = ap (λ n. suc n) (distinct_places us i j v d.1 h k)

not_pushed : (us : List (List ℕ)) (u v : List ℕ) → ¬ Member u us → u ≢ v → ¬ Member u (us ++ v ∷ [])
not_pushed [] u v absent d m = one m d
  where
    one : {x y : List ℕ} → Member x (y ∷ []) → x ≢ y → ⊥
    one here d = d refl
    one (there m) d = elim m [ ]
not_pushed (w ∷ us) u v absent d m = either m absent (λ k. not_pushed us u v k d)
  where
    either : {x y : List ℕ} → Member x (y ∷ (us ++ v ∷ [])) → ¬ Member x (y ∷ us) → ((¬ Member x us) → ¬ Member x (us ++ v ∷ [])) → ⊥
    either here absent later = absent here
    either (there m) absent later = later (λ n. absent (there n)) m

pub distinct_push : (us : List (List ℕ)) (v : List ℕ) → AreDistinct us → ¬ Member v us → AreDistinct (us ++ v ∷ [])
distinct_push [] v d absent = ((λ m. elim m [ ]), tt)
distinct_push (u ∷ us) v d absent = (not_pushed us u v d.0 (λ e. absent (subst (λ w. Member v (w ∷ us)) (sym e) here)), distinct_push us v d.1 (λ m. absent (there m)))

-- where v stands, if it does
pub place_or_none : (v : List ℕ) (us : List (List ℕ)) → ((i : ℕ) × StandsAt us i v) ⊎ (¬ Member v us)
place_or_none v [] = inr (λ m. elim m [ ])
place_or_none v (u ∷ us) = elim (same_text u v) [
  | inl e ↦ inl (0, e)
  | inr d ↦ elim (place_or_none v us) [
    | inl k ↦ inl (suc k.0, k.1)
    | inr absent ↦ inr (λ m. neither d absent m)
  ]
]
  where
    neither : {x : List ℕ} → x ≢ v → ¬ Member v us → ¬ Member v (x ∷ us)
    neither d absent here = d refl
    neither d absent (there m) = absent m

-- the value at the place before the number
abbrev pub value_at : List (List ℕ) → ℕ → List ℕ
value_at [] i = []
value_at (u ∷ us) zero = u
value_at (u ∷ us) (suc i) = value_at us i

pub stands_value : (us : List (List ℕ)) (i : ℕ) {v : List ℕ} → StandsAt us i v → value_at us i ≡ v
stands_value [] i h = absurd h
stands_value (u ∷ us) zero h = h
stands_value (u ∷ us) (suc i) h = stands_value us i h

-- a length above those of all values
abbrev longest : List (List ℕ) → ℕ
longest [] = 0
longest (u ∷ us) = max (length u) (longest us)

not_longer : {v : List ℕ} {us : List (List ℕ)} → Member v us → length v ≤ longest us
not_longer (here {w}) = omega arith
not_longer (there {b} m) = let k = not_longer m in omega (arith, k)

-- new values, as many as are wanted
abbrev pub fresh : List (List ℕ) → ℕ → List ℕ
fresh us i = replicate (longest us + suc i) 0

pub fresh_unknown : (us : List (List ℕ)) (i : ℕ) → ¬ Member (fresh us i) us
fresh_unknown us i m =
    let within = not_longer m in
    let long = length-replicate {A = ℕ} (longest us + suc i) 0 in
    omega (arith, within, long)

pub fresh_apart : (us : List (List ℕ)) (i j : ℕ) → fresh us i ≡ fresh us j → i ≡ j
fresh_apart us i j e =
    let one = length-replicate {A = ℕ} (longest us + suc i) 0 in
    let other = length-replicate {A = ℕ} (longest us + suc j) 0 in
    let same : length (fresh us i) ≡ length (fresh us j) = ap length e in
    omega (arith, one, other, same)
