-- Which terms stand in candidates.
use Rattle.std.proofs.Common.{◌≡◌, ◌≢◌, ℕ, ◌+◌, Bool, true, false, not, cond, List, [], ◌∷◌, ◌++◌, map, flat_map, Option, Some, None, inl, inr, refl, sym, subst}
use Rattle.ix_words.specs.Each.{Member, here, there}
use Rattle.std.specs.List.{range_with_len}
use Rattle.std.specs.Cmp.{nat_cmp_total}
use Rattle.std.specs.Cmp.Lexicographic.{lists_total}
use Rattle.ix_words.specs.Canon.{IsStrictOrder, when}
use Rattle.ix_words.proofs.Each.{Member-left, Member-right, Member-either}
use Rattle.ix_words.proofs.Canon.{Member-cases, Member-same, Member-map, Member-flat_map, Member-when, map-Member, flat_map-Member, canon-members}
use Rattle.ix_can.proofs.Lists.{Member-filter}
use Rattle.ix_values.specs.Order.{text_eq, text_cmp}
use Rattle.ix_values.specs.lemmas.Order.{text_cmp-same}
use Rattle.ix_expr.specs.declared.arg.Arg.{Arg}
use Rattle.ix_expr.specs.declared.arg.Arg.TheVariants.{Fixed, Param}
use Rattle.ix_expr.specs.Form.{PlainAtom, Form}
use Rattle.ix_next.specs.Given.{PlainGiven}
use Rattle.ix_next.specs.declared.term.Term.{Term}
use Rattle.ix_next.specs.declared.term.Term.TheVariants.{Known, New}
use Rattle.ix_expr.specs.Atoms.{atoms_of}
use Rattle.ix_next.specs.Fixed.{fixed_in, fixed_value}
use Rattle.ix_next.specs.Given.{given_for, goes_to}
use Rattle.ix_next.specs.Candidates.{PlainCandidate, candidate_of, candidates, candidates_at, fillings, terms_for, term_of, choices, new_behind, values_for, once}

-- texts have a strict order
pub text_order : IsStrictOrder text_cmp
text_order = record { total = lists_total nat_cmp_total; tells_apart = text_cmp-same }

-- a fixed argument's value is fixed in the expression
pub fixed_among : (x : Form) (s : PlainAtom) → Member s (atoms_of x) → (v : List ℕ) → Member (Fixed v) s.arguments → Member v (fixed_in x)
fixed_among x s m v n =
    (canon-members text_order (flat_map (λ s. flat_map fixed_value s.arguments) (atoms_of x))).from v
    (flat_map-Member (λ s. flat_map fixed_value s.arguments) m (flat_map-Member fixed_value n here))

pub once_members : {A : Type 0} (same : A → A → Bool) (w : List A) {a : A} → Member a (once same w) → Member a w
once_members same [] m = m
once_members same (b ∷ w) m = elim (Member-cases m) [
  | inl e ↦ Member-same w e
  | inr n ↦ there (once_members same w (Member-filter (λ c. not (same b c)) (once same w) n).0)
]

-- the values that a parameter gets are given or fixed
pub values_known : (x : Form) (given : List PlainGiven) (p v : List ℕ) → Member v (values_for x given p) → Member v (fixed_in x ++ map (λ g. g.value) given)
values_known x given p v m = elim (Member-either (given_for p given) (fixed_in x) (once_members text_eq (given_for p given ++ fixed_in x) m)) [
  | inl l ↦
      let k = Member-flat_map (λ g. when (goes_to p g.parameter) (g.value ∷ [])) given l in
      let n = (Member-when (goes_to p k.0.parameter) (k.0.value ∷ []) k.2).1 in
      Member-right (fixed_in x) (one k.0 n (map-Member (λ g. g.value) k.1))
  | inr r ↦ Member-left r (map (λ g. g.value) given)
]
  where
    one : (g : PlainGiven) → Member v (g.value ∷ []) → Member g.value (map (λ g. g.value) given) → Member v (map (λ g. g.value) given)
    one g m among = elim (Member-cases m) [
      | inl e ↦ subst (λ u. Member u (map (λ g. g.value) given)) (sym e) among
      | inr n ↦ elim n [ ]
    ]

-- each known value of the term is in the pool
abbrev IsGood : List (List ℕ) → Term → Type 0
IsGood pool t = (v : List ℕ) → Known v ≡ t → Member v pool

module _ (pool : List (List ℕ)) (new : Bool) (values : List ℕ → List (List ℕ)) (pooled : (p v : List ℕ) → Member v (values p) → Member v pool) where
  term_good : (p : List ℕ) (n : ℕ) (t : Term) → Member t (terms_for new (values p) n) → IsGood pool t
  term_good p n t m v e = elim (Member-either (map Known (values p)) (when new (map New (range_with_len 1 (n + 1)))) m) [
    | inl l ↦
        let k = Member-map Known (values p) l in
        let same : v ≡ k.0 = cc in
        subst (λ u. Member u pool) (sym same) (pooled p k.0 k.1)
    | inr r ↦
        let k = Member-map New (range_with_len 1 (n + 1)) (Member-when new (map New (range_with_len 1 (n + 1))) r).1 in
        let wrong : Known v ≡ New k.0 = cc in
        cc
  ]

  choice_good : (p : List ℕ) (n : ℕ) (own : Option Term) → ((u : Term) → own ≡ Some u → IsGood pool u) → (t : Term) → Member t (choices own (terms_for new (values p) n)) → IsGood pool t
  choice_good p n None good t m = term_good p n t m
  choice_good p n (Some u) good t m = elim (Member-cases m) [
    | inl e ↦ subst (IsGood pool) (sym e) (good u refl)
    | inr k ↦ elim k [ ]
  ]

  chosen_good : (p : List ℕ) (t : Term) (chosen : List (List ℕ × Term)) → IsGood pool t → ((q : List ℕ) (u : Term) → term_of q chosen ≡ Some u → IsGood pool u) → (q : List ℕ) (u : Term) → term_of q ((p, t) ∷ chosen) ≡ Some u → IsGood pool u
  chosen_good p t chosen good rest q u e = by (text_eq p q) e
    where
      by : (b : Bool) → cond b (Some t) (term_of q chosen) ≡ Some u → IsGood pool u
      by true h = let same : t ≡ u = cc in subst (IsGood pool) same good
      by false h = rest q u h

  fillings_good : (arguments : List Arg) (chosen : List (List ℕ × Term)) (n : ℕ)
      → ((v : List ℕ) → Member (Fixed v) arguments → Member v pool)
      → ((q : List ℕ) (u : Term) → term_of q chosen ≡ Some u → IsGood pool u)
      → (terms : List Term) → Member terms (fillings new values arguments chosen n) → (v : List ℕ) → Member (Known v) terms → Member v pool
  fillings_good [] chosen n fixed good terms m v h = elim (Member-cases m) [
    | inl e ↦ elim (subst (Member (Known v)) e h) [ ]
    | inr k ↦ elim k [ ]
  ]
  fillings_good (Fixed u ∷ arguments) chosen n fixed good terms m v h =
      let k = Member-map (λ ts. Known u ∷ ts) (fillings new values arguments chosen n) m in
      elim (Member-cases (subst (Member (Known v)) k.2 h)) [
        | inl e ↦ let same : v ≡ u = cc in subst (λ x. Member x pool) (sym same) (fixed u here)
        | inr r ↦ fillings_good arguments chosen n (λ x i. fixed x (there i)) good k.0 k.1 v r
      ]
  fillings_good (Param p ∷ arguments) chosen n fixed good terms m v h =
      let j = Member-flat_map (λ t. map (λ ts. t ∷ ts) (fillings new values arguments ((p, t) ∷ chosen) (new_behind (term_of p chosen) n t))) (choices (term_of p chosen) (terms_for new (values p) n)) m in
      let k = Member-map (λ ts. j.0 ∷ ts) (fillings new values arguments ((p, j.0) ∷ chosen) (new_behind (term_of p chosen) n j.0)) j.2 in
      let fine = choice_good p n (term_of p chosen) (good p) j.0 j.1 in
      elim (Member-cases (subst (Member (Known v)) k.2 h)) [
        | inl e ↦ fine v e
        | inr r ↦ fillings_good arguments ((p, j.0) ∷ chosen) (new_behind (term_of p chosen) n j.0) (λ x i. fixed x (there i)) (chosen_good p j.0 chosen fine good) k.0 k.1 v r
      ]

-- the known values of a candidate are given or fixed
pub known_terms : (new : Bool) (x : Form) (given : List PlainGiven) (c : PlainCandidate) → Member c (candidates new x given) → (v : List ℕ) → Member (Known v) c.terms → Member v (fixed_in x ++ map (λ g. g.value) given)
known_terms new x given c m v h =
    let j = Member-flat_map (candidates_at new x given) (atoms_of x) m in
    let k = Member-map (candidate_of j.0.name) (fillings new (values_for x given) j.0.arguments [] 0) j.2 in
    fillings_good (fixed_in x ++ map (λ g. g.value) given) new (values_for x given) (values_known x given) j.0.arguments [] 0
    (λ u i. Member-left (fixed_among x j.0 j.1 u i) (map (λ g. g.value) given)) (λ q u e. absurd (nothing e)) k.0 k.1 v (subst (λ d. Member (Known v) d.terms) k.2 h)
  where
    nothing : {u : Term} → None ≢ Some u
    nothing e = cc
