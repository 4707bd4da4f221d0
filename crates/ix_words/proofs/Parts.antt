-- Parts and projections, of fronts and of appended lists.
use Rattle.std.proofs.Common.{◌≡◌, suc, Bool, true, false, cond, List, [], ◌∷◌, ◌++◌, length, refl, sym, ap, ◌∙◌, arith, true≢false}
use Rattle.ix_words.specs.Each.{Each, no_item, item}
use Rattle.ix_words.specs.Parts.{part, Projection, ended, kept, left_out}
use Rattle.ix_words.proofs.Each.{Each-head, Each-tail}

module _ {A : Type 0} where
  pub cond_has : (P : List A → Type 0) (b : Bool) {x y : List A} → P x → P y → P (cond b x y)
  cond_has P true p q = p
  cond_has P false p q = q

  cond_append : (b : Bool) (a : A) (x y : List A) → cond b (a ∷ (x ++ y)) (x ++ y) ≡ cond b (a ∷ x) x ++ y
  cond_append true a x y = refl
  cond_append false a x y = refl

  pub cond_rest : {G : A → Type 0} (b : Bool) (a : A) (x : List A) → Each G (cond b (a ∷ x) x) → Each G x
  cond_rest true a x h = Each-tail h
  cond_rest false a x h = h

  pub cond_first : {G : A → Type 0} (b : Bool) (a : A) (x : List A) → b ≡ true → Each G (cond b (a ∷ x) x) → G a
  cond_first true a x e h = Each-head h
  cond_first false a x e h = absurd (true≢false (sym e))

-- owners of a whole list, cut where the list is cut
pub record Cut {K A : Type 0} (owners : List K) (u v : List A) : Type 0 where
  pub first : List K
  pub second : List K
  pub whole : owners ≡ first ++ second
  pub first_long : length first ≡ length u
  pub second_long : length second ≡ length v

module _ {K A : Type 0} where
  pub cut : (owners : List K) (u v : List A) → length owners ≡ length (u ++ v) → Cut owners u v
  cut owners [] v e = record { first = []; second = owners; whole = refl; first_long = refl; second_long = e }
  cut [] (a ∷ u) v e = absurd (omega arith)
  cut (k ∷ owners) (a ∷ u) v e =
      let c : Cut owners u v = cut owners u v (omega arith) in
      record {
        first = k ∷ c.first;
        second = c.second;
        whole = ap (λ ks. k ∷ ks) c.whole;
        first_long = ap suc c.first_long;
        second_long = c.second_long;
      }

  pub part-nil : (mine : K → Bool) (owners : List K) → part {K = K} {A = A} mine owners [] ≡ []
  part-nil mine [] = refl
  part-nil mine (k ∷ owners) = refl

  pub part-append : (mine : K → Bool) (ks ls : List K) (u v : List A) → length ks ≡ length u → part mine (ks ++ ls) (u ++ v) ≡ part mine ks u ++ part mine ls v
  part-append mine [] ls [] v e = refl
  part-append mine [] ls (a ∷ u) v e = absurd (omega arith)
  part-append mine (k ∷ ks) ls [] v e = absurd (omega arith)
  part-append mine (k ∷ ks) ls (a ∷ u) v e =
      ap (λ x. cond (mine k) (a ∷ x) x) (part-append mine ks ls u v (omega arith))
      ∙ cond_append (mine k) a (part mine ks u) (part mine ls v)

  pub part-each : {G : A → Type 0} (mine : K → Bool) (owners : List K) {w : List A} → Each G w → Each G (part mine owners w)
  part-each mine [] h = no_item
  part-each mine (k ∷ owners) no_item = no_item
  part-each {G} mine (k ∷ owners) (item g h) =
      let rest = part-each mine owners h in cond_has (Each G) (mine k) (item g rest) rest

  pub part-ext : (mine yours : K → Bool) (owners : List K) (w : List A) → ((k : K) → mine k ≡ yours k) → part mine owners w ≡ part yours owners w
  part-ext mine yours [] w e = refl
  part-ext mine yours (k ∷ owners) [] e = refl
  part-ext mine yours (k ∷ owners) (a ∷ w) e =
      ap (λ b. cond b (a ∷ part mine owners w) (part mine owners w)) (e k)
      ∙ ap (λ x. cond (yours k) (a ∷ x) x) (part-ext mine yours owners w e)

module _ {A : Type 0} {In : A → Type 0} where
  pub Projection-in : {w u : List A} → Projection In w u → Each In u
  Projection-in ended = no_item
  Projection-in (kept i p) = item i (Projection-in p)
  Projection-in (left_out o p) = Projection-in p

  pub Projection-each : {G : A → Type 0} {w u : List A} → Projection In w u → Each G w → Each G u
  Projection-each ended h = no_item
  Projection-each (kept i p) h = item (Each-head h) (Projection-each p (Each-tail h))
  Projection-each (left_out o p) h = Projection-each p (Each-tail h)

  pub Projection-append : {u v x y : List A} → Projection In u x → Projection In v y → Projection In (u ++ v) (x ++ y)
  Projection-append ended q = q
  Projection-append (kept i p) q = kept i (Projection-append p q)
  Projection-append (left_out o p) q = left_out o (Projection-append p q)

-- a projection of a whole list, cut where the list is cut
pub record ProjectionCut {A : Type 0} (In : A → Type 0) (u v z : List A) : Type 0 where
  pub first : List A
  pub second : List A
  pub whole : z ≡ first ++ second
  pub first_is : Projection In u first
  pub second_is : Projection In v second

module _ {A : Type 0} {In : A → Type 0} where
  pub projection_cut : (u v : List A) {z : List A} → Projection In (u ++ v) z → ProjectionCut In u v z
  projection_cut [] v p = record { first = []; second = _; whole = refl; first_is = ended; second_is = p }
  projection_cut (a ∷ u) v (kept i p) =
      let c = projection_cut u v p in
      record {
        first = a ∷ c.first;
        second = c.second;
        whole = ap (λ z. a ∷ z) c.whole;
        first_is = kept i c.first_is;
        second_is = c.second_is;
      }
  projection_cut (a ∷ u) v (left_out o p) =
      let c = projection_cut u v p in
      record {
        first = c.first;
        second = c.second;
        whole = c.whole;
        first_is = left_out o c.first_is;
        second_is = c.second_is;
      }

  pub Projection-once : {w u v : List A} → Projection In w u → Projection In w v → u ≡ v
  Projection-once ended ended = refl
  Projection-once (kept {a} i p) (kept j q) = ap (λ z. a ∷ z) (Projection-once p q)
  Projection-once (kept i p) (left_out o q) = absurd (o i)
  Projection-once (left_out o p) (kept j q) = absurd (o j)
  Projection-once (left_out o p) (left_out n q) = Projection-once p q
