-- What comes of fillings, place by place, and what trays have taken.
use Rattle.std.proofs.Common.{◌≡◌, ℕ, zero, suc, ◌+◌, ◌-◌, take, drop, get_or, ◌<◌, ◌≤◌, List, [], ◌∷◌, ◌++◌, map, fold, length, Some, None, refl, sym, ap, ◌∙◌, subst, append_assoc, arith, length-append}
use Rattle.std.proofs.lemmas.List.{map-append, take-append-drop}
use Rattle.std.specs.List.{flat_map, range_with_len}
use Rattle.ix_words.proofs.Canon.{flat_map-append}
use Rattle.ix_expr.specs.declared.arg.Arg.{Arg}
use Rattle.ix_expr.specs.declared.arg.Arg.TheVariants.{Fixed, Param}
use Rattle.ix_next.specs.declared.filling.Filling.{Filling}
use Rattle.ix_next.specs.declared.fill.Scope.{Scope}
use Rattle.ix_next.specs.declared.fill.Tray.{Tray}
use Rattle.ix_next.specs.declared.term.Term.{Term}
use Rattle.ix_next.specs.declared.term.Term.TheVariants.{Known, New}
use Rattle.ix_next.specs.Candidates.{PlainCandidate, candidate_of, fillings, new_behind, term_of, choices, terms_for}
use Rattle.ix_next.proofs.Sorted.{taken}
use Rattle.ix_next.specs.inside.Fillings.{with_term, with_fixed, with_own, with_first, with_param, with_terms, pool, filled, filled_with, keep, Took}

no_more : {A : Type 0} (w : List A) → w ++ [] ≡ w
no_more [] = refl
no_more (a ∷ w) = ap (λ u. a ∷ u) (no_more w)

-- a term, and then the others
extended_behind : (c : PlainCandidate) (t : Term) (w : List (List Term)) → map (with_terms c) (map (λ ts. t ∷ ts) w) ≡ map (with_terms (with_term c t)) w
extended_behind c t [] = refl
extended_behind c t (ts ∷ w) = λ i. candidate_of c.name (sym (append_assoc c.terms (t ∷ []) ts) i) ∷ extended_behind c t w i

pub filled_end : (s : Scope) (f : Filling) → filled s [] f ≡ f.candidate ∷ []
filled_end s f = λ i. candidate_of f.candidate.name (no_more f.candidate.terms i) ∷ []

pub filled_fixed : (s : Scope) (v : List ℕ) (rest : List Arg) (f : Filling) → filled s (Fixed v ∷ rest) f ≡ filled s rest (with_fixed f v)
filled_fixed s v rest f = extended_behind f.candidate (Known v) (fillings s.new (pool s) rest f.chosen f.news)

-- each of the terms, and then the others
extended_each : (c : PlainCandidate) (g : Term → List (List Term)) (ts : List Term) → map (with_terms c) (flat_map (λ t. map (λ w. t ∷ w) (g t)) ts) ≡ flat_map (λ t. map (with_terms (with_term c t)) (g t)) ts
extended_each c g [] = refl
extended_each c g (t ∷ ts) = map-append (with_terms c) (map (λ w. t ∷ w) (g t)) (flat_map (λ t. map (λ w. t ∷ w) (g t)) ts) ∙ (λ i. extended_behind c t (g t) i ++ extended_each c g ts i)

pub filled_param : (s : Scope) (p : List ℕ) (rest : List Arg) (f : Filling) → filled s (Param p ∷ rest) f
    ≡ flat_map (λ t. filled s rest (with_param f p (term_of p f.chosen) t)) (choices (term_of p f.chosen) (terms_for s.new (pool s p) f.news))
filled_param s p rest f = extended_each f.candidate (λ t. fillings s.new (pool s) rest ((p, t) ∷ f.chosen) (new_behind (term_of p f.chosen) f.news t)) (choices (term_of p f.chosen) (terms_for s.new (pool s p) f.news))

pub filled_again : (s : Scope) (p : List ℕ) (t : Term) (rest : List Arg) (f : Filling) → term_of p f.chosen ≡ Some t → filled s (Param p ∷ rest) f ≡ filled s rest (with_own f p t)
filled_again s p t rest f own = filled_param s p rest f
    ∙ ap (λ o. flat_map (λ u. filled s rest (with_param f p o u)) (choices o (terms_for s.new (pool s p) f.news))) own
    ∙ no_more (filled s rest (with_own f p t))

pub filled_first : (s : Scope) (p : List ℕ) (rest : List Arg) (f : Filling) → term_of p f.chosen ≡ None → filled s (Param p ∷ rest) f ≡ filled_with s rest f p (terms_for s.new (pool s p) f.news)
filled_first s p rest f none = filled_param s p rest f
    ∙ ap (λ o. flat_map (λ u. filled s rest (with_param f p o u)) (choices o (terms_for s.new (pool s p) f.news))) none

-- what was taken before, and then

fold_append : {A B : Type 0} (f : B → A → B) (b : B) (u v : List A) → fold f b (u ++ v) ≡ fold f (fold f b u) v
fold_append f b [] v = refl
fold_append f b (a ∷ u) v = fold_append f (f b a) u v

pub took_both : (s : Scope) (x y z : Tray) (u v : List PlainCandidate) → Took s x y u → Took s y z v → Took s x z (u ++ v)
took_both s x y z u v h k = record {
  found = k.found ∙ ap (λ w. fold (keep s.test) w v) h.found ∙ sym (fold_append (keep s.test) x.found.keys u v);
  seen = omega (arith, h.seen, k.seen, length-append u v);
  within = k.within;
}

pub took_same : (s : Scope) (x y : Tray) (u v : List PlainCandidate) → u ≡ v → Took s x y u → Took s x y v
took_same s x y u v e h = subst (Took s x y) e h

pub took_none : (s : Scope) (x : Tray) → x.seen ≤ s.limit → Took s x x []
took_none s x within = record { found = refl; seen = omega arith; within = within }

-- one term more
filled_push : (s : Scope) (rest : List Arg) (f : Filling) (p : List ℕ) (ts : List Term) (t : Term) → filled_with s rest f p (ts ++ t ∷ []) ≡ filled_with s rest f p ts ++ filled s rest (with_first f p t)
filled_push s rest f p ts t = flat_map-append (λ u. filled s rest (with_first f p u)) ts (t ∷ []) ∙ ap (λ w. filled_with s rest f p ts ++ w) (no_more (filled s rest (with_first f p t)))

known_taken : (w : List (List ℕ)) (i : ℕ) (v : List ℕ) → i < length w → v ≡ get_or w i v → map Known (take (i + 1) w) ≡ map Known (take i w) ++ Known v ∷ []
known_taken w i v below at = ap (map Known) (taken w i v below at) ∙ map-append Known (take i w) (v ∷ [])

range_push : (a n : ℕ) → range_with_len a (suc n) ≡ range_with_len a n ++ (a + n) ∷ []
range_push a zero =
    let same : a ≡ a + 0 = omega arith in
    ap (λ k. k ∷ []) same
range_push a (suc n) =
    let same : a + 1 + n ≡ a + suc n = omega arith in
    ap (λ w. a ∷ w) (range_push (a + 1) n ∙ ap (λ k. range_with_len (a + 1) n ++ k ∷ []) same)

new_taken : (n : ℕ) → map New (range_with_len 1 (n + 1)) ≡ map New (range_with_len 1 n) ++ New (n + 1) ∷ []
new_taken n =
    let one : n + 1 ≡ suc n = omega arith in
    let same : 1 + n ≡ n + 1 = omega arith in
    ap (λ k. map New (range_with_len 1 k)) one
    ∙ ap (map New) (range_push 1 n ∙ ap (λ k. range_with_len 1 n ++ k ∷ []) same)
    ∙ map-append New (range_with_len 1 n) ((n + 1) ∷ [])

range_more : (a k j : ℕ) → range_with_len a (k + j) ≡ range_with_len a k ++ range_with_len (a + k) j
range_more a zero j =
    let none : 0 + j ≡ j = omega arith in
    let same : a ≡ a + 0 = omega arith in
    ap (range_with_len a) none ∙ ap (λ b. range_with_len b j) same
range_more a (suc k) j =
    let one : suc k + j ≡ suc (k + j) = omega arith in
    let same : a + 1 + k ≡ a + suc k = omega arith in
    ap (range_with_len a) one ∙ ap (λ w. a ∷ w) (range_more (a + 1) k j ∙ ap (λ b. range_with_len (a + 1) k ++ range_with_len b j) same)

module _ (s : Scope) (rest : List Arg) (f : Filling) (p : List ℕ) where
  pub took_known : (x y z : Tray) (w : List (List ℕ)) (i : ℕ) (v : List ℕ) → i < length w → v ≡ get_or w i v
      → Took s x y (filled_with s rest f p (map Known (take i w))) → Took s y z (filled s rest (with_first f p (Known v)))
      → Took s x z (filled_with s rest f p (map Known (take (i + 1) w)))
  took_known x y z w i v below at h k =
      took_same s x z _ _ (sym (ap (filled_with s rest f p) (known_taken w i v below at) ∙ filled_push s rest f p (map Known (take i w)) (Known v)))
      (took_both s x y z _ _ h k)

  pub took_new : (x y z : Tray) (n : ℕ)
      → Took s x y (filled_with s rest f p (map New (range_with_len 1 n))) → Took s y z (filled s rest (with_first f p (New (n + 1))))
      → Took s x z (filled_with s rest f p (map New (range_with_len 1 (n + 1))))
  took_new x y z n h k =
      took_same s x z _ _ (sym (ap (filled_with s rest f p) (new_taken n) ∙ filled_push s rest f p (map New (range_with_len 1 n)) (New (n + 1))))
      (took_both s x y z _ _ h k)

  -- the first terms have no more than all
  more_with : (ts us : List Term) → length (filled_with s rest f p ts) ≤ length (filled_with s rest f p (ts ++ us))
  more_with ts us =
      let whole = ap length (flat_map-append (λ u. filled s rest (with_first f p u)) ts us) in
      let both = length-append (filled_with s rest f p ts) (filled_with s rest f p us) in
      omega (arith, whole, both)

  pub many_known : (x y : Tray) (w : List (List ℕ)) (i : ℕ) (v : List ℕ) → i < length w → v ≡ get_or w i v
      → Took s x y (filled_with s rest f p (map Known (take i w))) → s.limit < y.seen + length (filled s rest (with_first f p (Known v)))
      → s.limit < x.seen + length (filled_with s rest f p (map Known w))
  many_known x y w i v below at h many =
      let here = ap length (ap (filled_with s rest f p) (known_taken w i v below at) ∙ filled_push s rest f p (map Known (take i w)) (Known v)) in
      let both = length-append (filled_with s rest f p (map Known (take i w))) (filled s rest (with_first f p (Known v))) in
      let more = more_with (map Known (take (i + 1) w)) (map Known (drop (i + 1) w)) in
      let whole = ap (λ ts. length (filled_with s rest f p ts)) (sym (map-append Known (take (i + 1) w) (drop (i + 1) w)) ∙ ap (map Known) (take-append-drop (i + 1) w)) in
      let before = h.seen in
      omega (arith, here, both, more, whole, before, many)

  pub many_new : (x y : Tray) (m n : ℕ) → n < m
      → Took s x y (filled_with s rest f p (map New (range_with_len 1 n))) → s.limit < y.seen + length (filled s rest (with_first f p (New (n + 1))))
      → s.limit < x.seen + length (filled_with s rest f p (map New (range_with_len 1 m)))
  many_new x y m n below h many =
      let here = ap length (ap (filled_with s rest f p) (new_taken n) ∙ filled_push s rest f p (map New (range_with_len 1 n)) (New (n + 1))) in
      let both = length-append (filled_with s rest f p (map New (range_with_len 1 n))) (filled s rest (with_first f p (New (n + 1)))) in
      let more = more_with (map New (range_with_len 1 (n + 1))) (map New (range_with_len (1 + (n + 1)) (m - (n + 1)))) in
      let count : n + 1 + (m - (n + 1)) ≡ m = omega (arith, below) in
      let whole = ap (λ ts. length (filled_with s rest f p ts)) (sym (map-append New (range_with_len 1 (n + 1)) (range_with_len (1 + (n + 1)) (m - (n + 1)))) ∙ ap (map New) (sym (range_more 1 (n + 1) (m - (n + 1))) ∙ ap (range_with_len 1) count)) in
      let before = h.seen in
      omega (arith, here, both, more, whole, before, many)

  -- the known values, and then the new ones
  pub took_terms : (x y z : Tray) (ts us : List Term) → Took s x y (filled_with s rest f p ts) → Took s y z (filled_with s rest f p us) → Took s x z (filled_with s rest f p (ts ++ us))
  took_terms x y z ts us h k = took_same s x z _ _ (sym (flat_map-append (λ u. filled s rest (with_first f p u)) ts us)) (took_both s x y z _ _ h k)

  pub many_first : (x : Tray) (ts us : List Term) → s.limit < x.seen + length (filled_with s rest f p ts) → s.limit < x.seen + length (filled_with s rest f p (ts ++ us))
  many_first x ts us many = let more = more_with ts us in omega (arith, more, many)

  pub many_last : (x y : Tray) (ts us : List Term) → Took s x y (filled_with s rest f p ts) → s.limit < y.seen + length (filled_with s rest f p us) → s.limit < x.seen + length (filled_with s rest f p (ts ++ us))
  many_last x y ts us h many =
      let whole = ap length (flat_map-append (λ u. filled s rest (with_first f p u)) ts us) in
      let both = length-append (filled_with s rest f p ts) (filled_with s rest f p us) in
      let before = h.seen in
      omega (arith, whole, both, before, many)

module _ {A : Type 0} (s : Scope) (made : A → List PlainCandidate) where
  made_taken : (w : List A) (i : ℕ) (a : A) → i < length w → a ≡ get_or w i a → flat_map made (take (i + 1) w) ≡ flat_map made (take i w) ++ made a
  made_taken w i a below at = ap (flat_map made) (taken w i a below at) ∙ flat_map-append made (take i w) (a ∷ []) ∙ ap (λ u. flat_map made (take i w) ++ u) (no_more (made a))

  pub took_next : (x y z : Tray) (w : List A) (i : ℕ) (a : A) → i < length w → a ≡ get_or w i a
      → Took s x y (flat_map made (take i w)) → Took s y z (made a) → Took s x z (flat_map made (take (i + 1) w))
  took_next x y z w i a below at h k = took_same s x z _ _ (sym (made_taken w i a below at)) (took_both s x y z _ _ h k)

  pub many_next : (x y : Tray) (w : List A) (i : ℕ) (a : A) → i < length w → a ≡ get_or w i a
      → Took s x y (flat_map made (take i w)) → s.limit < y.seen + length (made a) → s.limit < x.seen + length (flat_map made w)
  many_next x y w i a below at h many =
      let here = ap length (made_taken w i a below at) in
      let both = length-append (flat_map made (take i w)) (made a) in
      let whole = ap length (ap (flat_map made) (sym (take-append-drop (i + 1) w)) ∙ flat_map-append made (take (i + 1) w) (drop (i + 1) w)) in
      let split = length-append (flat_map made (take (i + 1) w)) (flat_map made (drop (i + 1) w)) in
      let before = h.seen in
      omega (arith, here, both, whole, split, before, many)
