-- The numbers of new values in candidates are 1 to 4.
use Rattle.std.proofs.Common.{◌≡◌, ℕ, ◌+◌, ◌<◌, ◌≤◌, zero, suc, Bool, true, false, cond, List, [], ◌∷◌, length, map, Option, Some, None, inl, inr, refl, ◌∙◌, subst, arith}
use Rattle.std.specs.List.{range_with_len}
use Rattle.ix_words.specs.Each.{Each, no_item, item, Member}
use Rattle.ix_words.specs.Canon.{when}
use Rattle.ix_words.proofs.Each.{Member-either, Each-append, Each-member}
use Rattle.ix_words.proofs.Canon.{Member-cases, Member-map, Member-flat_map, Member-when}
use Rattle.ix_values.specs.Order.{text_eq}
use Rattle.ix_expr.specs.declared.arg.Arg.{Arg}
use Rattle.ix_expr.specs.declared.arg.Arg.TheVariants.{Fixed, Param}
use Rattle.ix_expr.specs.Form.{Form, atom, opt, seq, star, par, par_star, or, and, couple, any, every, sync, all, times}
use Rattle.ix_expr.specs.Spelling.{IsAtom, IsSpelled}
use Rattle.ix_next.specs.Given.{PlainGiven}
use Rattle.ix_next.specs.declared.term.Term.{Term}
use Rattle.ix_next.specs.declared.term.Term.TheVariants.{Known, New}
use Rattle.ix_expr.specs.Atoms.{atoms_of}
use Rattle.ix_next.specs.Candidates.{PlainCandidate, candidate_of, candidates, candidates_at, fillings, terms_for, term_of, choices, new_behind, values_for}

-- the numbers of the term are 1 to n
abbrev IsUpTo : ℕ → Term → Type 0
IsUpTo n t = (k : ℕ) → New k ≡ t → (1 ≤ k) × (k ≤ n)

in_range : (a n k : ℕ) → Member k (range_with_len a n) → (a ≤ k) × (k < a + n)
in_range a zero k m = elim m [ ]
in_range a (suc n) k m = elim (Member-cases m) [
  | inl e ↦ (omega (arith, e), omega (arith, e))
  | inr r ↦ let h = in_range (a + 1) n k r in (omega (arith, h.0), omega (arith, h.1))
]

module _ (new : Bool) (values : List ℕ → List (List ℕ)) where
  term_up : (p : List ℕ) (n : ℕ) (t : Term) → Member t (terms_for new (values p) n) → IsUpTo (n + 1) t
  term_up p n t m k e = elim (Member-either (map Known (values p)) (when new (map New (range_with_len 1 (n + 1)))) m) [
    | inl l ↦
        let j = Member-map Known (values p) l in
        let wrong : New k ≡ Known j.0 = cc in
        cc
    | inr r ↦
        let j = Member-map New (range_with_len 1 (n + 1)) (Member-when new (map New (range_with_len 1 (n + 1))) r).1 in
        let same : k ≡ j.0 = cc in
        let h = in_range 1 (n + 1) j.0 j.1 in
        (omega (arith, same, h.0), omega (arith, same, h.1))
  ]

  -- how many new values there are behind a term that is chosen, and that its own number isn't above
  chosen_up : (p : List ℕ) (n : ℕ) (own : Option Term) → ((u : Term) → own ≡ Some u → IsUpTo n u) → (t : Term) → Member t (choices own (terms_for new (values p) n))
      → IsUpTo (new_behind own n t) t × (n ≤ new_behind own n t) × (new_behind own n t ≤ n + 1)
  chosen_up p n None up (Known v) m = (λ k e. cc, omega arith, omega arith)
  chosen_up p n None up (New j) m =
      let h = term_up p n (New j) m j refl in
      (λ k e. let same : k ≡ j = cc in (omega (arith, same, h.0), omega (arith, same)), omega arith, omega (arith, h.1))
  chosen_up p n (Some u) up t m = elim (Member-cases m) [
    | inl e ↦ (λ k f. up u refl k (f ∙ e), omega arith, omega arith)
    | inr k ↦ elim k [ ]
  ]

  all_up : (p : List ℕ) (t : Term) (chosen : List (List ℕ × Term)) (n m : ℕ) → n ≤ m → IsUpTo m t → ((q : List ℕ) (u : Term) → term_of q chosen ≡ Some u → IsUpTo n u)
      → (q : List ℕ) (u : Term) → term_of q ((p, t) ∷ chosen) ≡ Some u → IsUpTo m u
  all_up p t chosen n m more up rest q u e = by (text_eq p q) e
    where
      by : (b : Bool) → cond b (Some t) (term_of q chosen) ≡ Some u → IsUpTo m u
      by true h = let same : t ≡ u = cc in subst (IsUpTo m) same up
      by false h = λ k f. let r = rest q u h k f in (r.0, omega (arith, r.1, more))

  fillings_up : (arguments : List Arg) (chosen : List (List ℕ × Term)) (n : ℕ) → ((q : List ℕ) (u : Term) → term_of q chosen ≡ Some u → IsUpTo n u)
      → (terms : List Term) → Member terms (fillings new values arguments chosen n) → (k : ℕ) → Member (New k) terms → (1 ≤ k) × (k ≤ n + length arguments)
  fillings_up [] chosen n up terms m k h = elim (Member-cases m) [
    | inl e ↦ elim (subst (Member (New k)) e h) [ ]
    | inr r ↦ elim r [ ]
  ]
  fillings_up (Fixed u ∷ arguments) chosen n up terms m k h =
      let j = Member-map (λ ts. Known u ∷ ts) (fillings new values arguments chosen n) m in
      elim (Member-cases (subst (Member (New k)) j.2 h)) [
        | inl e ↦ cc
        | inr r ↦ let g = fillings_up arguments chosen n up j.0 j.1 k r in (g.0, omega (arith, g.1))
      ]
  fillings_up (Param p ∷ arguments) chosen n up terms m k h =
      let j = Member-flat_map (λ t. map (λ ts. t ∷ ts) (fillings new values arguments ((p, t) ∷ chosen) (new_behind (term_of p chosen) n t))) (choices (term_of p chosen) (terms_for new (values p) n)) m in
      let i = Member-map (λ ts. j.0 ∷ ts) (fillings new values arguments ((p, j.0) ∷ chosen) (new_behind (term_of p chosen) n j.0)) j.2 in
      let c = chosen_up p n (term_of p chosen) (up p) j.0 j.1 in
      elim (Member-cases (subst (Member (New k)) i.2 h)) [
        | inl e ↦ let g = c.0 k e in let most = c.2 in (g.0, omega (arith, g.1, most))
        | inr r ↦
            let g = fillings_up arguments ((p, j.0) ∷ chosen) (new_behind (term_of p chosen) n j.0) (all_up p j.0 chosen n (new_behind (term_of p chosen) n j.0) c.1 c.0 up) i.0 i.1 k r in
            let most = c.2 in
            (g.0, omega (arith, g.1, most))
      ]

-- each atom of a spelled expression is spelled
pub atoms_spelled : (x : Form) → IsSpelled x → Each IsAtom (atoms_of x)
atoms_spelled (atom s) h = item h no_item
atoms_spelled (opt y) h = atoms_spelled y h
atoms_spelled (seq y z) h = Each-append (atoms_spelled y h.0) (atoms_spelled z h.1)
atoms_spelled (star y) h = atoms_spelled y h
atoms_spelled (par y z) h = Each-append (atoms_spelled y h.0) (atoms_spelled z h.1)
atoms_spelled (par_star y) h = atoms_spelled y h
atoms_spelled (or y z) h = Each-append (atoms_spelled y h.0) (atoms_spelled z h.1)
atoms_spelled (and y z) h = Each-append (atoms_spelled y h.0) (atoms_spelled z h.1)
atoms_spelled (couple y z) h = Each-append (atoms_spelled y h.0) (atoms_spelled z h.1)
atoms_spelled (any p y) h = atoms_spelled y h.1
atoms_spelled (every p y) h = atoms_spelled y h.1
atoms_spelled (sync p y) h = atoms_spelled y h.1
atoms_spelled (all p y) h = atoms_spelled y h.1
atoms_spelled (times n y) h = atoms_spelled y h

-- the numbers in a candidate of a spelled expression
pub numbers_small : (new : Bool) (x : Form) (given : List PlainGiven) (c : PlainCandidate) → IsSpelled x → Member c (candidates new x given) → (k : ℕ) → Member (New k) c.terms → (1 ≤ k) × (k ≤ 4)
numbers_small new x given c spelled m k h =
    let j = Member-flat_map (candidates_at new x given) (atoms_of x) m in
    let i = Member-map (candidate_of j.0.name) (fillings new (values_for x given) j.0.arguments [] 0) j.2 in
    let g = fillings_up new (values_for x given) j.0.arguments [] 0 (λ q u e. cc) i.0 i.1 k (subst (λ d. Member (New k) d.terms) i.2 h) in
    let few = (Each-member (atoms_spelled x spelled) j.1).few in
    (g.0, omega (arith, g.1, few))
