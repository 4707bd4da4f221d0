-- For each way to put words together: it leads from one predicate to a weaker one, it is closed under fronts, and it
-- gives of each item what its parts give. And the empty word has it.
use Rattle.std.proofs.Common.{◌≡◌, ℕ, ◌⊎◌, inl, inr, Bool, true, false, not, ◌==◌, List, [], ◌∷◌, ◌++◌, length, append_assoc, refl, sym, ap, ◌∙◌, subst, arith, eq-eqb}
use Rattle.ix_words.specs.Each.{Each, no_item, item, Member, here, there}
use Rattle.ix_words.specs.Parts.{part, joined, Projection, ended, kept, left_out}
use Rattle.ix_words.specs.Words.{Joined, Repeated, Split, Numbered, Shared, Owned, Projected, Closed, GivesEach}
use Rattle.ix_words.specs.inside.Leads.{Leads}
use Rattle.ix_words.proofs.Each.{Each-append, Each-left, Each-right, Each-same, Each-head, Each-tail, Each-weaker, Each-member, Each-joined, Each-pieces}
use Rattle.ix_words.proofs.Parts.{cut, part-append, part-each, cond_rest, cond_first, projection_cut, Projection-each}

-- Leads

module _ {A : Type 0} {G : A → Type 0} where
  pub Joined-leads : {Q R Q' R' : List A → Type 0} → Leads G Q Q' → Leads G R R' → Leads G (Joined Q R) (Joined Q' R')
  Joined-leads l m u g h =
      let g' = Each-same h.whole g in
      record {
        front = h.front;
        back = h.back;
        whole = h.whole;
        front_has = l h.front (Each-left h.front h.back g') h.front_has;
        back_has = m h.back (Each-right h.front h.back g') h.back_has;
      }

  pieces_lead : {Q Q' : List A → Type 0} → Leads G Q Q' → {pieces : List (List A)} → Each (Each G) pieces → Each Q pieces → Each Q' pieces
  pieces_lead l no_item h = no_item
  pieces_lead l (item g gs) h = item (l _ g (Each-head h)) (pieces_lead l gs (Each-tail h))

  pub Repeated-leads : {Q Q' : List A → Type 0} → Leads G Q Q' → Leads G (Repeated Q) (Repeated Q')
  Repeated-leads l u g h =
      record {
        pieces = h.pieces;
        whole = h.whole;
        each_has = pieces_lead l (Each-pieces h.pieces (Each-same h.whole g)) h.each_has;
      }

  pub Split-leads : {Q R Q' R' : List A → Type 0} → Leads G Q Q' → Leads G R R' → Leads G (Split Q R) (Split Q' R')
  Split-leads l m u g h =
      record {
        marks = h.marks;
        as_long = h.as_long;
        left_has = l _ (part-each (λ mark. mark) h.marks g) h.left_has;
        right_has = m _ (part-each not h.marks g) h.right_has;
      }

  pub Numbered-leads : {Q Q' : List A → Type 0} → Leads G Q Q' → Leads G (Numbered Q) (Numbered Q')
  Numbered-leads l u g h =
      record {
        owners = h.owners;
        as_long = h.as_long;
        each_has = Each-weaker (λ owner q. l _ (part-each (λ other. owner == other) h.owners g) q) h.each_has;
      }

  pub Shared-leads : {n : ℕ} {Q Q' : List A → Type 0} → Leads G Q Q' → Leads G (Shared n Q) (Shared n Q')
  Shared-leads l u g h =
      record {
        owners = h.owners;
        as_long = h.as_long;
        below = h.below;
        each_has = λ k b. l _ (part-each (λ other. k == other) h.owners g) (h.each_has k b);
      }

  pub Owned-leads : {V : Type 0} {same : V → V → Bool} {Q Q' : V → List A → Type 0} → ((v : V) → Leads G (Q v) (Q' v)) → Leads G (Owned same Q) (Owned same Q')
  Owned-leads {same = same} l u g h =
      record {
        owners = h.owners;
        as_long = h.as_long;
        each_has = λ v. l v _ (part-each (same v) h.owners g) (h.each_has v);
      }

  pub Projection-leads : {In In' : A → Type 0} → ((a : A) → G a → In a → In' a) → ((a : A) → G a → In' a → In a) → {w u : List A} → Each G w → Projection In w u → Projection In' w u
  Projection-leads f b g ended = ended
  Projection-leads f b g (kept {a} i p) = kept (f a (Each-head g) i) (Projection-leads f b (Each-tail g) p)
  Projection-leads f b g (left_out {a} o p) = left_out (λ i. o (b a (Each-head g) i)) (Projection-leads f b (Each-tail g) p)

  pub Projected-leads : {In In' : A → Type 0} {Q Q' : List A → Type 0} → ((a : A) → G a → In a → In' a) → ((a : A) → G a → In' a → In a) → Leads G Q Q' → Leads G (Projected In Q) (Projected In' Q')
  Projected-leads f b l u g h =
      record {
        rest = h.rest;
        projection = Projection-leads f b g h.projection;
        rest_has = l h.rest (Projection-each h.projection g) h.rest_has;
      }

-- Closed

module _ {A : Type 0} where
  -- where two lists are one, either the first front reaches into the second, or the other way round
  pub record Reach (front back u v : List A) : Type 0 where
    pub middle : List A
    pub over : front ≡ u ++ middle
    pub rest : v ≡ middle ++ back

  pub reach : (front back u v : List A) → u ++ v ≡ front ++ back → Reach front back u v ⊎ Reach u v front back
  reach front back [] v e = inl (record { middle = front; over = refl; rest = e })
  reach [] back (a ∷ u) v e = inr (record { middle = a ∷ u; over = refl; rest = sym e })
  reach (b ∷ front) back (a ∷ u) v e =
      let same : a ≡ b = cc in
      let rest : u ++ v ≡ front ++ back = cc in
      elim (reach front back u v rest) [
        | inl r ↦ inl (record { middle = r.middle; over = cc; rest = r.rest })
        | inr r ↦ inr (record { middle = r.middle; over = cc; rest = r.rest })
      ]

  -- a front of a front and a back is a front of the front, or it is the front with a front of the back
  pub Joined-front : {Q R : List A → Type 0} → Closed R → (u v : List A) → Joined Q R (u ++ v) → ((t : List A) × Q (u ++ t)) ⊎ Joined Q R u
  Joined-front {Q} {R} c u v h =
      elim (reach h.front h.back u v h.whole) [
        | inl r ↦ inl (r.middle, subst Q r.over h.front_has)
        | inr r ↦ inr (record {
          front = h.front;
          back = r.middle;
          whole = r.over;
          front_has = h.front_has;
          back_has = c r.middle v (subst R r.rest h.back_has);
        })
      ]

  pieces_front : {Q P : List A → Type 0} → ((w : List A) → Q w → P w) → Closed P → P [] → (u v : List A) (pieces : List (List A)) → Each Q pieces → u ++ v ≡ joined pieces → Joined (Repeated Q) P u
  pieces_front {Q} {P} f c z u v [] no_item e =
      record {
        front = [];
        back = u;
        whole = refl;
        front_has = record { pieces = []; whole = refl; each_has = no_item };
        back_has = c u v (subst P (sym e) z);
      }
  pieces_front {Q} {P} f c z u v (piece ∷ pieces) (item q qs) e =
      elim (reach piece (joined pieces) u v e) [
        | inl r ↦ record {
          front = [];
          back = u;
          whole = refl;
          front_has = record { pieces = []; whole = refl; each_has = no_item };
          back_has = c u r.middle (subst P r.over (f piece q));
        }
        | inr r ↦
            let j = pieces_front f c z r.middle v pieces qs (sym r.rest) in
            record {
              front = piece ++ j.front;
              back = j.back;
              whole = r.over ∙ ap (λ x. piece ++ x) j.whole ∙ sym (append_assoc piece j.front j.back);
              front_has = record {
                pieces = piece ∷ j.front_has.pieces;
                whole = ap (λ x. piece ++ x) j.front_has.whole;
                each_has = item q j.front_has.each_has;
              };
              back_has = j.back_has;
            }
      ]

  -- a front of repeated pieces is repeated pieces and a front of one
  pub Repeated-front : {Q P : List A → Type 0} → ((w : List A) → Q w → P w) → Closed P → P [] → (u v : List A) → Repeated Q (u ++ v) → Joined (Repeated Q) P u
  Repeated-front f c z u v h = pieces_front f c z u v h.pieces h.each_has h.whole

  pub Split-closed : {Q R : List A → Type 0} → Closed Q → Closed R → Closed (Split Q R)
  Split-closed {Q} {R} c d u v h =
      let k = cut h.marks u v h.as_long in
      record {
        marks = k.first;
        as_long = k.first_long;
        left_has = c _ _ (subst Q (ap (λ ms. part (λ mark. mark) ms (u ++ v)) k.whole ∙ part-append (λ mark. mark) k.first k.second u v k.first_long) h.left_has);
        right_has = d _ _ (subst R (ap (λ ms. part not ms (u ++ v)) k.whole ∙ part-append not k.first k.second u v k.first_long) h.right_has);
      }

  pub Numbered-closed : {Q : List A → Type 0} → Closed Q → Closed (Numbered Q)
  Numbered-closed {Q} c u v h =
      let k = cut h.owners u v h.as_long in
      record {
        owners = k.first;
        as_long = k.first_long;
        each_has =
            Each-weaker
            (λ owner q. c _ _ (subst Q (ap (λ ms. part (λ other. owner == other) ms (u ++ v)) k.whole ∙ part-append (λ other. owner == other) k.first k.second u v k.first_long) q))
            (Each-left k.first k.second (Each-same k.whole h.each_has));
      }

  pub Shared-closed : {n : ℕ} {Q : List A → Type 0} → Closed Q → Closed (Shared n Q)
  Shared-closed {n} {Q} c u v h =
      let k = cut h.owners u v h.as_long in
      record {
        owners = k.first;
        as_long = k.first_long;
        below = Each-left k.first k.second (Each-same k.whole h.below);
        each_has = λ j b. c _ _ (subst Q (ap (λ ms. part (λ other. j == other) ms (u ++ v)) k.whole ∙ part-append (λ other. j == other) k.first k.second u v k.first_long) (h.each_has j b));
      }

  pub Owned-closed : {V : Type 0} {same : V → V → Bool} {Q : V → List A → Type 0} → ((v : V) → Closed (Q v)) → Closed (Owned same Q)
  Owned-closed {V} {same} {Q} c u v h =
      let k = cut h.owners u v h.as_long in
      record {
        owners = k.first;
        as_long = k.first_long;
        each_has = λ x. c x _ _ (subst (Q x) (ap (λ ms. part (same x) ms (u ++ v)) k.whole ∙ part-append (same x) k.first k.second u v k.first_long) (h.each_has x));
      }

  pub Projected-closed : {In : A → Type 0} {Q : List A → Type 0} → Closed Q → Closed (Projected In Q)
  Projected-closed {In} {Q} c u v h =
      let k = projection_cut u v h.projection in
      record { rest = k.first; projection = k.first_is; rest_has = c _ k.second (subst Q k.whole h.rest_has) }

-- GivesEach

module _ {A : Type 0} {G : A → Type 0} where
  pub Joined-gives : {Q R : List A → Type 0} → GivesEach G Q → GivesEach G R → GivesEach G (Joined Q R)
  Joined-gives q r u h = Each-same (sym h.whole) (Each-append (q h.front h.front_has) (r h.back h.back_has))

  pub Repeated-gives : {Q : List A → Type 0} → GivesEach G Q → GivesEach G (Repeated Q)
  Repeated-gives q u h = Each-same (sym h.whole) (Each-joined (Each-weaker q h.each_has))

  pub marked : (marks : List Bool) (w : List A) → length marks ≡ length w → Each G (part (λ mark. mark) marks w) → Each G (part not marks w) → Each G w
  marked [] [] e l r = no_item
  marked [] (a ∷ w) e l r = absurd (omega arith)
  marked (m ∷ marks) [] e l r = no_item
  marked (true ∷ marks) (a ∷ w) e l r = item (Each-head l) (marked marks w (omega arith) (Each-tail l) r)
  marked (false ∷ marks) (a ∷ w) e l r = item (Each-head r) (marked marks w (omega arith) l (Each-tail r))

  pub Split-gives : {Q R : List A → Type 0} → GivesEach G Q → GivesEach G R → GivesEach G (Split Q R)
  Split-gives q r u h = marked h.marks u h.as_long (q _ h.left_has) (r _ h.right_has)

  pub numbered : (owners : List ℕ) (w : List A) → length owners ≡ length w → ((k : ℕ) → Member k owners → Each G (part (λ other. k == other) owners w)) → Each G w
  numbered [] [] e h = no_item
  numbered [] (a ∷ w) e h = absurd (omega arith)
  numbered (k ∷ owners) [] e h = no_item
  numbered (k ∷ owners) (a ∷ w) e h =
      item
      (cond_first (k == k) a _ (eq-eqb k k refl) (h k here))
      (numbered owners w (omega arith) (λ j m. cond_rest (j == k) a _ (h j (there m))))

  pub Numbered-gives : {Q : List A → Type 0} → GivesEach G Q → GivesEach G (Numbered Q)
  Numbered-gives q u h = numbered h.owners u h.as_long (λ k m. q _ (Each-member h.each_has m))

  pub Shared-gives : {n : ℕ} {Q : List A → Type 0} → GivesEach G Q → GivesEach G (Shared n Q)
  Shared-gives q u h = numbered h.owners u h.as_long (λ k m. q _ (h.each_has k (Each-member h.below m)))

module _ {A : Type 0} {In G : A → Type 0} where
  pub Projection-gives : {w u : List A} → Projection In w u → Each G u → Each (λ a. In a → G a) w
  Projection-gives ended h = no_item
  Projection-gives (kept i p) h = item (λ j. Each-head h) (Projection-gives p (Each-tail h))
  Projection-gives (left_out o p) h = item (λ i. absurd (o i)) (Projection-gives p h)

  pub Projected-gives : {Q : List A → Type 0} → GivesEach G Q → GivesEach (λ a. In a → G a) (Projected In Q)
  Projected-gives q u h = Projection-gives h.projection (q h.rest h.rest_has)

module _ {A V : Type 0} {G : V → A → Type 0} where
  pub owned : (same : V → V → Bool) → ((v : V) → same v v ≡ true) → (owners : List V) (w : List A) → length owners ≡ length w → ((v : V) → Each (G v) (part (same v) owners w)) → Each (λ a. (v : V) × G v a) w
  owned same s [] [] e h = no_item
  owned same s [] (a ∷ w) e h = absurd (omega arith)
  owned same s (k ∷ owners) [] e h = no_item
  owned same s (k ∷ owners) (a ∷ w) e h =
      item
      (k, cond_first (same k k) a _ (s k) (h k))
      (owned same s owners w (omega arith) (λ v. cond_rest (same v k) a _ (h v)))

  pub Owned-gives : {same : V → V → Bool} {Q : V → List A → Type 0} → ((v : V) → same v v ≡ true) → ((v : V) → GivesEach (G v) (Q v)) → GivesEach (λ a. (v : V) × G v a) (Owned same Q)
  Owned-gives {same = same} s q u h = owned same s h.owners u h.as_long (λ v. q v _ (h.each_has v))

-- The empty word

module _ {A : Type 0} where
  pub Joined-empty : {Q R : List A → Type 0} → Q [] → R [] → Joined Q R []
  Joined-empty q r = record { front = []; back = []; whole = refl; front_has = q; back_has = r }

  pub Repeated-empty : {Q : List A → Type 0} → Repeated Q []
  Repeated-empty = record { pieces = []; whole = refl; each_has = no_item }

  pub Split-empty : {Q R : List A → Type 0} → Q [] → R [] → Split Q R []
  Split-empty q r = record { marks = []; as_long = refl; left_has = q; right_has = r }

  pub Numbered-empty : {Q : List A → Type 0} → Numbered Q []
  Numbered-empty = record { owners = []; as_long = refl; each_has = no_item }

  pub Shared-empty : {n : ℕ} {Q : List A → Type 0} → Q [] → Shared n Q []
  Shared-empty q = record { owners = []; as_long = refl; below = no_item; each_has = λ k b. q }

  pub Owned-empty : {V : Type 0} {same : V → V → Bool} {Q : V → List A → Type 0} → ((v : V) → Q v []) → Owned same Q []
  Owned-empty q = record { owners = []; as_long = refl; each_has = q }

  pub Projected-empty : {In : A → Type 0} {Q : List A → Type 0} → Q [] → Projected In Q []
  Projected-empty q = record { rest = []; projection = ended; rest_has = q }
