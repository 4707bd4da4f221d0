-- Words that are put together of such words again: repeated and joined.
use Rattle.std.proofs.Common.{◌≡◌, List, [], ◌∷◌, ◌++◌, append_assoc, append-nil, refl, sym, ap, ◌∙◌, subst}
use Rattle.ix_words.specs.Each.{Each, no_item, item}
use Rattle.ix_words.specs.Parts.{joined, Projection, ended, kept}
use Rattle.ix_words.specs.Words.{Joined, Repeated, Projected}
use Rattle.ix_words.proofs.Each.{Each-append, Each-head, Each-tail}
use Rattle.ix_words.proofs.Words.{Repeated-empty}
use Rattle.ix_words.proofs.Parts.{Projection-once}

module _ {A : Type 0} where
  pub Repeated-one : {Q : List A → Type 0} (w : List A) → Q w → Repeated Q w
  Repeated-one w q = record { pieces = w ∷ []; whole = sym (append-nil w); each_has = item q no_item }

  joined-append : (us vs : List (List A)) → joined (us ++ vs) ≡ joined us ++ joined vs
  joined-append [] vs = refl
  joined-append (u ∷ us) vs = ap (λ x. u ++ x) (joined-append us vs) ∙ sym (append_assoc u (joined us) (joined vs))

  pub Repeated-both : {Q : List A → Type 0} (u v : List A) → Repeated Q u → Repeated Q v → Repeated Q (u ++ v)
  Repeated-both u v h k = record {
    pieces = h.pieces ++ k.pieces;
    whole = (λ i. h.whole i ++ k.whole i) ∙ sym (joined-append h.pieces k.pieces);
    each_has = Each-append h.each_has k.each_has;
  }

  fold : {Q R : List A → Type 0} → ((u : List A) → R u → Repeated Q u) → (pieces : List (List A)) → Each R pieces → Repeated Q (joined pieces)
  fold f [] h = Repeated-empty
  fold f (piece ∷ pieces) h = Repeated-both piece (joined pieces) (f piece (Each-head h)) (fold f pieces (Each-tail h))

  -- a word of pieces that are each repeated is repeated
  pub Repeated-fold : {Q R : List A → Type 0} → ((u : List A) → R u → Repeated Q u) → (w : List A) → Repeated R w → Repeated Q w
  Repeated-fold {Q} f w h = subst (Repeated Q) (sym h.whole) (fold f h.pieces h.each_has)

  -- nothing before the back
  pub Joined-back : {Q R : List A → Type 0} (w : List A) → Q [] → R w → Joined Q R w
  Joined-back w q r = record { front = []; back = w; whole = refl; front_has = q; back_has = r }

  -- a front with Q and a back with R
  pub Joined-of : {Q R : List A → Type 0} (u v : List A) → Q u → R v → Joined Q R (u ++ v)
  Joined-of u v q r = record { front = u; back = v; whole = refl; front_has = q; back_has = r }

  -- a front before a front
  pub Joined-twice : {Q R P : List A → Type 0} → ((u v : List A) → Q u → R v → R (u ++ v)) → (w : List A) → Joined Q (Joined R P) w → Joined R P w
  Joined-twice f w h =
      let k = h.back_has in
      record {
        front = h.front ++ k.front;
        back = k.back;
        whole = h.whole ∙ ap (λ x. h.front ++ x) k.whole ∙ sym (append_assoc h.front k.front k.back);
        front_has = f h.front k.front h.front_has k.front_has;
        back_has = k.back_has;
      }

  -- with another front
  pub Joined-fronts : {Q R P : List A → Type 0} → ((u : List A) → Q u → R u) → (w : List A) → Joined Q P w → Joined R P w
  Joined-fronts f w h = record {
    front = h.front;
    back = h.back;
    whole = h.whole;
    front_has = f h.front h.front_has;
    back_has = h.back_has;
  }

  pub Projection-itself : {In : A → Type 0} {w : List A} → Each In w → Projection In w w
  Projection-itself no_item = ended
  Projection-itself (item i h) = kept i (Projection-itself h)

  -- a word whose items are all in is its own projection
  pub Projected-itself : {In : A → Type 0} {Q : List A → Type 0} (w : List A) → Each In w → Q w → Projected In Q w
  Projected-itself w h q = record { rest = w; projection = Projection-itself h; rest_has = q }

  pub Projected-whole : {In : A → Type 0} {Q : List A → Type 0} (w : List A) → Each In w → Projected In Q w → Q w
  Projected-whole {Q = Q} w h p = subst Q (Projection-once p.projection (Projection-itself h)) p.rest_has
