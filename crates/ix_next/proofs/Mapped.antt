-- For each way to put words together: it leads from a word to the word with each item exchanged.
use Rattle.std.proofs.Common.{◌≡◌, ℕ, Bool, true, false, not, cond, ◌==◌, List, [], ◌∷◌, ◌++◌, map, refl, sym, ap, ◌∙◌, subst}
use Rattle.std.proofs.lemmas.List.{map-append, length-map}
use Rattle.ix_words.specs.Each.{Each, no_item, item}
use Rattle.ix_words.specs.Parts.{part, joined, Projection, ended, kept, left_out}
use Rattle.ix_words.specs.Words.{Joined, Repeated, Split, Numbered, Shared, Owned, Projected}
use Rattle.ix_words.proofs.Each.{Each-weaker}

-- what a predicate of words leads to of the exchanged word
abbrev pub Exchanges : {A B : Type 0} → (A → B) → (List A → Type 0) → (List B → Type 0) → Type 0
Exchanges {A} f Q R = (w : List A) → Q w → R (map f w)

module _ {A B : Type 0} (f : A → B) where
  map_joined : (pieces : List (List A)) → map f (joined pieces) ≡ joined (map (map f) pieces)
  map_joined [] = refl
  map_joined (piece ∷ pieces) = map-append f piece (joined pieces) ∙ ap (λ rest. map f piece ++ rest) (map_joined pieces)

  pub part_map : {K : Type 0} (mine : K → Bool) (owners : List K) (w : List A) → part mine owners (map f w) ≡ map f (part mine owners w)
  part_map mine [] w = refl
  part_map mine (owner ∷ owners) [] = refl
  part_map mine (owner ∷ owners) (a ∷ w) = chosen (mine owner) (part mine owners (map f w)) (part mine owners w) (part_map mine owners w)
    where
      chosen : (b : Bool) (u : List B) (v : List A) → u ≡ map f v → cond b (f a ∷ u) u ≡ map f (cond b (a ∷ v) v)
      chosen true u v e = ap (λ rest. f a ∷ rest) e
      chosen false u v e = e

  pub Each_map : {G : A → Type 0} {H : B → Type 0} → ((a : A) → G a → H (f a)) → {w : List A} → Each G w → Each H (map f w)
  Each_map k no_item = no_item
  Each_map k (item {a} g h) = item (k a g) (Each_map k h)

  pub Joined_map : {Q R : List A → Type 0} {Q' R' : List B → Type 0} → Exchanges f Q Q' → Exchanges f R R' → Exchanges f (Joined Q R) (Joined Q' R')
  Joined_map l m w h =
      record {
        front = map f h.front;
        back = map f h.back;
        whole = ap (map f) h.whole ∙ map-append f h.front h.back;
        front_has = l h.front h.front_has;
        back_has = m h.back h.back_has;
      }

  pieces_map : {Q : List A → Type 0} {Q' : List B → Type 0} → Exchanges f Q Q' → {pieces : List (List A)} → Each Q pieces → Each Q' (map (map f) pieces)
  pieces_map l no_item = no_item
  pieces_map l (item {a} q h) = item (l a q) (pieces_map l h)

  pub Repeated_map : {Q : List A → Type 0} {Q' : List B → Type 0} → Exchanges f Q Q' → Exchanges f (Repeated Q) (Repeated Q')
  Repeated_map l w h =
      record {
        pieces = map (map f) h.pieces;
        whole = ap (map f) h.whole ∙ map_joined h.pieces;
        each_has = pieces_map l h.each_has;
      }

  part_has : {K : Type 0} {Q : List A → Type 0} (Q' : List B → Type 0) → Exchanges f Q Q' → (mine : K → Bool) (owners : List K) (w : List A) → Q (part mine owners w) → Q' (part mine owners (map f w))
  part_has Q' l mine owners w q = subst Q' (sym (part_map mine owners w)) (l (part mine owners w) q)

  pub Split_map : {Q R : List A → Type 0} {Q' R' : List B → Type 0} → Exchanges f Q Q' → Exchanges f R R' → Exchanges f (Split Q R) (Split Q' R')
  Split_map {Q' = Q'} {R' = R'} l m w h =
      record {
        marks = h.marks;
        as_long = h.as_long ∙ sym (length-map w f);
        left_has = part_has Q' l (λ mark. mark) h.marks w h.left_has;
        right_has = part_has R' m not h.marks w h.right_has;
      }

  pub Numbered_map : {Q : List A → Type 0} {Q' : List B → Type 0} → Exchanges f Q Q' → Exchanges f (Numbered Q) (Numbered Q')
  Numbered_map {Q' = Q'} l w h =
      record {
        owners = h.owners;
        as_long = h.as_long ∙ sym (length-map w f);
        each_has = Each-weaker (λ owner q. part_has Q' l (λ other. owner == other) h.owners w q) h.each_has;
      }

  pub Shared_map : {n : ℕ} {Q : List A → Type 0} {Q' : List B → Type 0} → Exchanges f Q Q' → Exchanges f (Shared n Q) (Shared n Q')
  Shared_map {Q' = Q'} l w h =
      record {
        owners = h.owners;
        as_long = h.as_long ∙ sym (length-map w f);
        below = h.below;
        each_has = λ k b. part_has Q' l (λ other. k == other) h.owners w (h.each_has k b);
      }

  pub Projection_map : {In : A → Type 0} {In' : B → Type 0} → ((a : A) → In a → In' (f a)) → ((a : A) → In' (f a) → In a) → {w u : List A} → Projection In w u → Projection In' (map f w) (map f u)
  Projection_map forth back ended = ended
  Projection_map forth back (kept {a} i p) = kept (forth a i) (Projection_map forth back p)
  Projection_map forth back (left_out {a} o p) = left_out (λ i. o (back a i)) (Projection_map forth back p)

  pub Projected_map : {In : A → Type 0} {In' : B → Type 0} {Q : List A → Type 0} {Q' : List B → Type 0} → ((a : A) → In a → In' (f a)) → ((a : A) → In' (f a) → In a) → Exchanges f Q Q' → Exchanges f (Projected In Q) (Projected In' Q')
  Projected_map forth back l w h =
      record {
        rest = map f h.rest;
        projection = Projection_map forth back h.projection;
        rest_has = l h.rest h.rest_has;
      }

  -- where the owners are exchanged too
  part_owners : {K : Type 0} (g : K → K) (mine its : K → Bool) → ((k : K) → mine (g k) ≡ its k) → (owners : List K) (w : List B) → part mine (map g owners) w ≡ part its owners w
  part_owners g mine its same [] w = refl
  part_owners g mine its same (owner ∷ owners) [] = refl
  part_owners g mine its same (owner ∷ owners) (a ∷ w) = λ i. cond (same owner i) (a ∷ part_owners g mine its same owners w i) (part_owners g mine its same owners w i)

  pub Owned_map : {K : Type 0} {same : K → K → Bool} {Q : K → List A → Type 0} {Q' : K → List B → Type 0} (to back : K → K)
      → ((v owner : K) → same v (to owner) ≡ same (back v) owner) → ((v : K) → Exchanges f (Q (back v)) (Q' v)) → Exchanges f (Owned same Q) (Owned same Q')
  Owned_map {same = same} {Q' = Q'} to back alike l w h =
      record {
        owners = map to h.owners;
        as_long = length-map h.owners to ∙ h.as_long ∙ sym (length-map w f);
        each_has = λ v. subst (Q' v) (sym (part_owners to (same v) (same (back v)) (alike v) h.owners (map f w)))
            (part_has (Q' v) (l v) (same (back v)) h.owners w (h.each_has (back v)));
      }
