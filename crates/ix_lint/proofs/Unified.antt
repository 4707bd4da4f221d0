-- Terms can be unified exactly where values make them equal.
use Rattle.std.proofs.Common.{◌≡◌, ◌≢◌, ℕ, suc, ◌+◌, Bool, true, false, not, ◌&&◌, List, [], ◌∷◌, ◌++◌, refl, sym, ap, ◌∙◌, true≢false, arith, if◌then◌else◌}
use Rattle.ix_words.specs.Each.{Each, no_item, item}
use Rattle.ix_words.proofs.Each.{Each-head, Each-tail}
use Rattle.ix_values.specs.Order.{text_eq}
use Rattle.ix_values.specs.lemmas.Order.{text_eq-decides}
use Rattle.ix_lint.specs.declared.terms.Term.{Term}
use Rattle.ix_lint.specs.declared.terms.Term.TheVariants.{Value, Shared, OfFirst, OfSecond}
use Rattle.ix_lint.specs.Terms.{same_term, is_value_term, resolved, can_differ}
use Rattle.ix_lint.proofs.Lists.{both, not_true, not_false}

-- The same terms

itself : (t : Term) → same_term t t ≡ true
itself (Value v) = (text_eq-decides v v).1 refl
itself (Shared q) = (text_eq-decides q q).1 refl
itself (OfFirst q) = (text_eq-decides q q).1 refl
itself (OfSecond q) = (text_eq-decides q q).1 refl

pub same_is : (t u : Term) → same_term t u ≡ true → t ≡ u
same_is (Value v) (Value u) e = ap Value ((text_eq-decides v u).0 e)
same_is (Shared v) (Shared u) e = ap Shared ((text_eq-decides v u).0 e)
same_is (OfFirst v) (OfFirst u) e = ap OfFirst ((text_eq-decides v u).0 e)
same_is (OfSecond v) (OfSecond u) e = ap OfSecond ((text_eq-decides v u).0 e)
same_is (Value v) _ e = absurd (true≢false (sym e))
same_is (Shared v) _ e = absurd (true≢false (sym e))
same_is (OfFirst v) _ e = absurd (true≢false (sym e))
same_is (OfSecond v) _ e = absurd (true≢false (sym e))

-- Replaced terms

resolved-behind : (l r : List (Term × Term)) (t : Term) → resolved (l ++ r) t ≡ resolved l (resolved r t)
resolved-behind [] r t = refl
resolved-behind (pair ∷ l) r t = ap (λ u. if same_term u pair.0 then pair.1 else u) (resolved-behind l r t)

-- no value is replaced
abbrev pub NoValue : Term × Term → Type 0
NoValue pair = is_value_term pair.0 ≡ false

value_stays : (v : List ℕ) (u : Term) → is_value_term u ≡ false → same_term (Value v) u ≡ false
value_stays v (Value u) e = absurd (true≢false e)
value_stays v _ e = refl

resolved-value : (r : List (Term × Term)) (v : List ℕ) → Each NoValue r → resolved r (Value v) ≡ Value v
resolved-value [] v h = refl
resolved-value (pair ∷ r) v h =
    ap (λ t. if same_term t pair.0 then pair.1 else t) (resolved-value r v (Each-tail h))
    ∙ ap (λ b. if b then pair.1 else Value v) (value_stays v pair.0 (Each-head h))

either_way : (b : Bool) (u : Term) → (if b then u else u) ≡ u
either_way true u = refl
either_way false u = refl

-- a pair of which the first is replaced by the second becomes equal
replaced_by : (r : List (Term × Term)) (t u : Term) → resolved ((resolved r t, resolved r u) ∷ r) t ≡ resolved ((resolved r t, resolved r u) ∷ r) u
replaced_by r t u =
    ap (λ b. if b then resolved r u else resolved r t) (itself (resolved r t))
    ∙ sym (either_way (same_term (resolved r u) (resolved r t)) (resolved r u))

replaced_back : (r : List (Term × Term)) (t u : Term) → resolved ((resolved r u, resolved r t) ∷ r) t ≡ resolved ((resolved r u, resolved r t) ∷ r) u
replaced_back r t u =
    either_way (same_term (resolved r t) (resolved r u)) (resolved r t)
    ∙ sym (ap (λ b. if b then resolved r t else resolved r u) (itself (resolved r u)))

-- From unifying to values

-- pairs of replaced terms that make each pair equal and the last one different
pub record Solved (r ps : List (Term × Term)) (last : Term × Term) : Type 0 where
  pub whole : List (Term × Term)
  pub more : List (Term × Term)
  pub joined : whole ≡ more ++ r
  pub no_value : Each NoValue whole
  pub equal : Each (λ q. resolved whole q.0 ≡ resolved whole q.1) ps
  pub apart : same_term (resolved whole last.0) (resolved whole last.1) ≡ false

stays_equal : (whole more r : List (Term × Term)) (t u : Term) → whole ≡ more ++ r → resolved r t ≡ resolved r u → resolved whole t ≡ resolved whole u
stays_equal whole more r t u e h =
    ap (λ l. resolved l t) e ∙ resolved-behind more r t ∙ ap (resolved more) h ∙ sym (resolved-behind more r u) ∙ sym (ap (λ l. resolved l u) e)

append_one : (l r : List (Term × Term)) (pair : Term × Term) → l ++ pair ∷ r ≡ (l ++ pair ∷ []) ++ r
append_one [] r pair = refl
append_one (x ∷ l) r pair = ap (λ w. x ∷ w) (append_one l r pair)

without_more : (r ps : List (Term × Term)) (last q : Term × Term) → resolved r q.0 ≡ resolved r q.1 → Solved r ps last → Solved r (q ∷ ps) last
without_more r ps last q e s = record {
  whole = s.whole;
  more = s.more;
  joined = s.joined;
  no_value = s.no_value;
  equal = item (stays_equal s.whole s.more r q.0 q.1 s.joined e) s.equal;
  apart = s.apart;
}

with_more : (r ps : List (Term × Term)) (last q pair : Term × Term) → resolved (pair ∷ r) q.0 ≡ resolved (pair ∷ r) q.1 → Solved (pair ∷ r) ps last → Solved r (q ∷ ps) last
with_more r ps last q pair e s = record {
  whole = s.whole;
  more = s.more ++ pair ∷ [];
  joined = s.joined ∙ append_one s.more r pair;
  no_value = s.no_value;
  equal = item (stays_equal s.whole s.more (pair ∷ r) q.0 q.1 s.joined e) s.equal;
  apart = s.apart;
}

pub solved : (r ps : List (Term × Term)) (last : Term × Term) → Each NoValue r → can_differ r ps last ≡ true → Solved r ps last
solved r [] last n h = record { whole = r; more = []; joined = refl; no_value = n; equal = no_item; apart = not_true (same_term (resolved r last.0) (resolved r last.1)) h }
solved r (q ∷ ps) last n h =
    chosen (λ g. solved r ps last n g) (λ pair f g. solved (pair ∷ r) ps last (item f n) g)
    (same_term (resolved r q.0) (resolved r q.1)) refl (is_value_term (resolved r q.0)) refl h
  where
    chosen : (can_differ r ps last ≡ true → Solved r ps last) → ((pair : Term × Term) → NoValue pair → can_differ (pair ∷ r) ps last ≡ true → Solved (pair ∷ r) ps last) →
        (b : Bool) → same_term (resolved r q.0) (resolved r q.1) ≡ b → (c : Bool) → is_value_term (resolved r q.0) ≡ c →
        (if b then can_differ r ps last
        else (if c then not (is_value_term (resolved r q.1)) && can_differ ((resolved r q.1, resolved r q.0) ∷ r) ps last
        else can_differ ((resolved r q.0, resolved r q.1) ∷ r) ps last)) ≡ true → Solved r (q ∷ ps) last
    chosen same next true e c f g = without_more r ps last q (same_is (resolved r q.0) (resolved r q.1) e) (same g)
    chosen same next false e true f g =
        let k = both (not (is_value_term (resolved r q.1))) (can_differ ((resolved r q.1, resolved r q.0) ∷ r) ps last) g in
        with_more r ps last q (resolved r q.1, resolved r q.0) (replaced_back r q.0 q.1)
        (next (resolved r q.1, resolved r q.0) (not_true (is_value_term (resolved r q.1)) k.0) k.1)
    chosen same next false e false f g =
        with_more r ps last q (resolved r q.0, resolved r q.1) (replaced_by r q.0 q.1)
        (next (resolved r q.0, resolved r q.1) f g)

-- Values that tell two terms apart

-- the first number of a value
head_of : Term → ℕ
head_of (Value []) = 0
head_of (Value (n ∷ v)) = n
head_of t = 0

-- each parameter its own value, which begins with m
abbrev valued : ℕ → Term → List ℕ
valued m (Value v) = v
valued m (Shared q) = m ∷ 0 ∷ q
valued m (OfFirst q) = m ∷ 1 ∷ q
valued m (OfSecond q) = m ∷ 2 ∷ q

not_same : (u v : List ℕ) → text_eq u v ≡ false → u ≢ v
not_same u v e same = true≢false (sym ((text_eq-decides u v).1 same) ∙ e)

value_apart : (v : List ℕ) (m : ℕ) (w : List ℕ) → m ≡ suc (head_of (Value v)) → v ≢ m ∷ w
unfolding head_of
value_apart [] m w e h = absurd (cc)
value_apart (n ∷ v) m w e h = let k : n ≡ m = cc in absurd (omega arith)

second_number : (m a b : ℕ) (q p : List ℕ) → ◌≡◌ {A = List ℕ} (m ∷ a ∷ q) (m ∷ b ∷ p) → a ≡ b
second_number m a b q p h = cc

behind_two : (m a : ℕ) (q p : List ℕ) → ◌≡◌ {A = List ℕ} (m ∷ a ∷ q) (m ∷ a ∷ p) → q ≡ p
behind_two m a q p h = cc

valued_apart : (t u : Term) (m : ℕ) → m ≡ suc (head_of t + head_of u) → same_term t u ≡ false → valued m t ≢ valued m u
unfolding head_of
valued_apart (Value v) (Value u) m e n = not_same v u n
valued_apart (Value v) (Shared q) m e n = value_apart v m (0 ∷ q) (omega arith)
valued_apart (Value v) (OfFirst q) m e n = value_apart v m (1 ∷ q) (omega arith)
valued_apart (Value v) (OfSecond q) m e n = value_apart v m (2 ∷ q) (omega arith)
valued_apart (Shared q) (Value v) m e n = λ h. value_apart v m (0 ∷ q) (omega arith) (sym h)
valued_apart (Shared q) (Shared p) m e n = λ h. not_same q p n (behind_two m 0 q p h)
valued_apart (Shared q) (OfFirst p) m e n = λ h. absurd (omega (arith, second_number m 0 1 q p h))
valued_apart (Shared q) (OfSecond p) m e n = λ h. absurd (omega (arith, second_number m 0 2 q p h))
valued_apart (OfFirst q) (Value v) m e n = λ h. value_apart v m (1 ∷ q) (omega arith) (sym h)
valued_apart (OfFirst q) (Shared p) m e n = λ h. absurd (omega (arith, second_number m 1 0 q p h))
valued_apart (OfFirst q) (OfFirst p) m e n = λ h. not_same q p n (behind_two m 1 q p h)
valued_apart (OfFirst q) (OfSecond p) m e n = λ h. absurd (omega (arith, second_number m 1 2 q p h))
valued_apart (OfSecond q) (Value v) m e n = λ h. value_apart v m (2 ∷ q) (omega arith) (sym h)
valued_apart (OfSecond q) (Shared p) m e n = λ h. absurd (omega (arith, second_number m 2 0 q p h))
valued_apart (OfSecond q) (OfFirst p) m e n = λ h. absurd (omega (arith, second_number m 2 1 q p h))
valued_apart (OfSecond q) (OfSecond p) m e n = λ h. not_same q p n (behind_two m 2 q p h)

-- what each term stands for: a value for itself; each pair is equal and the last one different
pub record Valuation (ps : List (Term × Term)) (last : Term × Term) : Type 0 where
  pub of : Term → List ℕ
  pub fixed : (v : List ℕ) → of (Value v) ≡ v
  pub equal : Each (λ q. of q.0 ≡ of q.1) ps
  pub apart : of last.0 ≢ of last.1

each_valued : (m : ℕ) (r ps : List (Term × Term)) → Each (λ q. resolved r q.0 ≡ resolved r q.1) ps → Each (λ q. valued m (resolved r q.0) ≡ valued m (resolved r q.1)) ps
each_valued m r [] h = no_item
each_valued m r (q ∷ ps) h = item (ap (valued m) (Each-head h)) (each_valued m r ps (Each-tail h))

-- where terms can be unified, values make them equal
pub valuation : (ps : List (Term × Term)) (last : Term × Term) → can_differ [] ps last ≡ true → Valuation ps last
valuation ps last h =
    let s = solved [] ps last no_item h in
    let m : ℕ = suc (head_of (resolved s.whole last.0) + head_of (resolved s.whole last.1)) in
    record {
      of = λ t. valued m (resolved s.whole t);
      fixed = λ v. ap (valued m) (resolved-value s.whole v s.no_value);
      equal = each_valued m s.whole ps s.equal;
      apart = valued_apart (resolved s.whole last.0) (resolved s.whole last.1) m refl s.apart;
    }

-- From values to unifying

module _ (of : Term → List ℕ) (fixed : (v : List ℕ) → of (Value v) ≡ v) where
  -- replaced terms keep their values
  keeps_value : (r : List (Term × Term)) (t : Term) → Each (λ q. of q.0 ≡ of q.1) r → of (resolved r t) ≡ of t
  keeps_value [] t h = refl
  keeps_value (pair ∷ r) t h = chosen (same_term (resolved r t) pair.0) (same_is (resolved r t) pair.0) (keeps_value r t (Each-tail h))
    where
      chosen : (b : Bool) → (b ≡ true → resolved r t ≡ pair.0) → of (resolved r t) ≡ of t → of (if b then pair.1 else resolved r t) ≡ of t
      chosen true same k = sym (Each-head h) ∙ sym (ap of (same refl)) ∙ k
      chosen false same k = k

  both_values : (t u : Term) → is_value_term t ≡ true → is_value_term u ≡ true → of t ≡ of u → same_term t u ≡ true
  both_values (Value v) (Value u) f g e = (text_eq-decides v u).1 (sym (fixed v) ∙ e ∙ fixed u)
  both_values (Value v) _ f g e = absurd (true≢false (sym g))
  both_values _ u f g e = absurd (true≢false (sym f))

  other_kind : (t u : Term) (b : Bool) → is_value_term u ≡ b → is_value_term t ≡ true → same_term t u ≡ false → of t ≡ of u → is_value_term u ≡ false
  other_kind t u true g f n e = absurd (true≢false (sym (both_values t u f g e) ∙ n))
  other_kind t u false g f n e = g

  differ_apart : (t u : Term) (b : Bool) → (b ≡ true → t ≡ u) → of t ≢ of u → b ≡ false
  differ_apart t u true same n = absurd (n (ap of (same refl)))
  differ_apart t u false same n = refl

  -- where values make terms equal, they can be unified
  pub unified : (r ps : List (Term × Term)) (last : Term × Term) → Each (λ q. of q.0 ≡ of q.1) r → Each (λ q. of q.0 ≡ of q.1) ps → of last.0 ≢ of last.1 → can_differ r ps last ≡ true
  unified r [] last h k n =
      not_false (same_term (resolved r last.0) (resolved r last.1))
      (differ_apart (resolved r last.0) (resolved r last.1) (same_term (resolved r last.0) (resolved r last.1)) (same_is (resolved r last.0) (resolved r last.1))
      (λ e. n (sym (keeps_value r last.0 h) ∙ e ∙ keeps_value r last.1 h)))
  unified r (q ∷ ps) last h k n =
      let e : of (resolved r q.0) ≡ of (resolved r q.1) = keeps_value r q.0 h ∙ Each-head k ∙ sym (keeps_value r q.1 h) in
      chosen (unified r ps last h (Each-tail k) n) (λ pair f. unified (pair ∷ r) ps last (item f h) (Each-tail k) n)
      (same_term (resolved r q.0) (resolved r q.1)) refl (is_value_term (resolved r q.0)) refl e
    where
      chosen : can_differ r ps last ≡ true → ((pair : Term × Term) → of pair.0 ≡ of pair.1 → can_differ (pair ∷ r) ps last ≡ true) →
          (b : Bool) → same_term (resolved r q.0) (resolved r q.1) ≡ b → (c : Bool) → is_value_term (resolved r q.0) ≡ c → of (resolved r q.0) ≡ of (resolved r q.1) →
          (if b then can_differ r ps last
          else (if c then not (is_value_term (resolved r q.1)) && can_differ ((resolved r q.1, resolved r q.0) ∷ r) ps last
          else can_differ ((resolved r q.0, resolved r q.1) ∷ r) ps last)) ≡ true
      chosen same next true f c g e = same
      chosen same next false f true g e =
          let o : is_value_term (resolved r q.1) ≡ false = other_kind (resolved r q.0) (resolved r q.1) (is_value_term (resolved r q.1)) refl g f e in
          let d : can_differ ((resolved r q.1, resolved r q.0) ∷ r) ps last ≡ true = next (resolved r q.1, resolved r q.0) (sym e) in
          (λ i. not (o i) && d i)
      chosen same next false f false g e = next (resolved r q.0, resolved r q.1) e
