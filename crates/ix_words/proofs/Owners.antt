-- Owners that suffice: numbers below the length of the word, and values that have to do with what they own; and pieces
-- that are not empty.
use Rattle.std.proofs.Common.{◌≡◌, ◌≢◌, inl, inr, ℕ, suc, ◌<◌, Bool, true, false, cond, ◌==◌, List, [], ◌∷◌, ◌++◌, map, length, refl, sym, ap, ◌∙◌, subst, arith, true≢false, eqb-true, eq-eqb}
use Rattle.std.specs.Cmp.{both_ways}
use Rattle.ix_words.specs.Each.{Each, no_item, item, Member, here, there, EachPair, no_pair, pair}
use Rattle.ix_words.specs.Parts.{part, joined}
use Rattle.ix_words.specs.Words.{Repeated, Numbered, Owned, GivesEach}
use Rattle.ix_words.proofs.Each.{Each-head, Each-tail, Each-member, Each-members}
use Rattle.ix_words.proofs.Parts.{cond_rest, cond_first}
use Rattle.ix_words.proofs.Canon.{Member-cases}

module _ {K L A : Type 0} where
  pub part-map : (mine : L → Bool) (f : K → L) (owners : List K) (w : List A) → part mine (map f owners) w ≡ part (λ k. mine (f k)) owners w
  part-map mine f [] w = refl
  part-map mine f (k ∷ owners) [] = refl
  part-map mine f (k ∷ owners) (a ∷ w) = ap (λ x. cond (mine (f k)) (a ∷ x) x) (part-map mine f owners w)

module _ {A : Type 0} where
  kept_filled : (b : Bool) (a : A) (x : List A) → b ≡ true → cond b (a ∷ x) x ≢ []
  kept_filled true a x e f = cc
  kept_filled false a x e f = true≢false (sym e)

  rest_filled : (b : Bool) (a : A) (x : List A) → x ≢ [] → cond b (a ∷ x) x ≢ []
  rest_filled true a x n f = cc
  rest_filled false a x n f = n f

  none_kept : (b : Bool) (a : A) (x : List A) → b ≡ false → x ≡ [] → cond b (a ∷ x) x ≡ []
  none_kept true a x e f = absurd (true≢false e)
  none_kept false a x e f = f

module _ {K A : Type 0} where
  -- parts by tests that agree on the owners are one
  pub part-members : (mine yours : K → Bool) (owners : List K) (w : List A) → ((k : K) → Member k owners → mine k ≡ yours k) → part mine owners w ≡ part yours owners w
  part-members mine yours [] w e = refl
  part-members mine yours (k ∷ owners) [] e = refl
  part-members mine yours (k ∷ owners) (a ∷ w) e =
      ap (λ b. cond b (a ∷ part mine owners w) (part mine owners w)) (e k here)
      ∙ ap (λ x. cond (yours k) (a ∷ x) x) (part-members mine yours owners w (λ j m. e j (there m)))

  -- the part of an owner that is used is not empty
  pub part-used : (mine : K → Bool) (owners : List K) (w : List A) (k : K) → length owners ≡ length w → Member k owners → mine k ≡ true → part mine owners w ≢ []
  part-used mine [] w k e m t = elim m [ ]
  part-used mine (j ∷ owners) [] k e m t = absurd (omega arith)
  part-used mine (j ∷ owners) (a ∷ w) k e m t =
      elim (Member-cases m) [
        | inl f ↦ kept_filled (mine j) a (part mine owners w) (ap mine (sym f) ∙ t)
        | inr n ↦ rest_filled (mine j) a (part mine owners w) (part-used mine owners w k (omega arith) n t)
      ]

  -- the part of what no owner is is empty
  pub part-unused : (mine : K → Bool) (owners : List K) (w : List A) → Each (λ k. mine k ≡ false) owners → part mine owners w ≡ []
  part-unused mine [] w h = refl
  part-unused mine (k ∷ owners) [] h = refl
  part-unused mine (k ∷ owners) (a ∷ w) h = none_kept (mine k) a (part mine owners w) (Each-head h) (part-unused mine owners w (Each-tail h))

  pub EachPair-long : {G : K → A → Type 0} {owners : List K} {w : List A} → EachPair G owners w → length owners ≡ length w
  EachPair-long no_pair = refl
  EachPair-long (pair g h) = ap suc (EachPair-long h)

-- Numbers below the length

abbrev first_place : ℕ → List ℕ → ℕ
first_place k [] = 0
first_place k (j ∷ owners) = cond (k == j) 0 (suc (first_place k owners))

later : (k j : ℕ) (owners : List ℕ) → (k == j) ≡ false → Member k (j ∷ owners) → Member k owners
later k j owners e m = elim (Member-cases m) [ inl f ↦ absurd (true≢false (sym (eq-eqb k j f) ∙ e)) | inr n ↦ n ]

place_below : (owners : List ℕ) (k : ℕ) → Member k owners → first_place k owners < length owners
place_below [] k m = elim m [ ]
place_below (j ∷ owners) k m = chosen (k == j) (first_place k owners) (λ e. place_below owners k (later k j owners e m))
  where
    chosen : (b : Bool) (n : ℕ) → (b ≡ false → n < length owners) → cond b 0 (suc n) < suc (length owners)
    chosen true n h = omega arith
    chosen false n h = let g : n < length owners = h refl in omega arith

place_once : (owners : List ℕ) (k j : ℕ) → Member k owners → Member j owners → first_place k owners ≡ first_place j owners → k ≡ j
place_once [] k j m n e = elim m [ ]
place_once (i ∷ owners) k j m n e =
    both (k == i) (j == i) (eqb-true k i) (eqb-true j i) (first_place k owners) (first_place j owners)
    (λ f g h. place_once owners k j (later k i owners f m) (later j i owners g n) h) e
  where
    both : (b c : Bool) → (b ≡ true → k ≡ i) → (c ≡ true → j ≡ i) → (x y : ℕ) → (b ≡ false → c ≡ false → x ≡ y → k ≡ j) → cond b 0 (suc x) ≡ cond c 0 (suc y) → k ≡ j
    both true true f g x y r h = f refl ∙ sym (g refl)
    both true false f g x y r h = absurd (omega arith)
    both false true f g x y r h = absurd (omega arith)
    both false false f g x y r h = r refl refl (omega arith)

length_map : {A B : Type 0} (f : A → B) (w : List A) → length (map f w) ≡ length w
length_map f [] = refl
length_map f (a ∷ w) = ap suc (length_map f w)

pub Each-map : {A B : Type 0} {G : B → Type 0} (f : A → B) {w : List A} → Each (λ a. G (f a)) w → Each G (map f w)
Each-map f no_item = no_item
Each-map f (item g h) = item g (Each-map f h)

place_test : (owners : List ℕ) (k j : ℕ) → Member k owners → Member j owners → (first_place k owners == first_place j owners) ≡ (k == j)
place_test owners k j m n =
    both_ways (first_place k owners == first_place j owners) (k == j)
    (λ e. eq-eqb k j (place_once owners k j m n (eqb-true _ _ e)))
    (λ e. eq-eqb _ _ (ap (λ i. first_place i owners) (eqb-true k j e)))

-- owner numbers below the length of the word suffice
pub Numbered-below : {A : Type 0} {Q : List A → Type 0} (w : List A) → Numbered Q w → (n : Numbered Q w) × Each (λ k. k < length w) n.owners
Numbered-below {A} {Q} w h =
    let place : ℕ → ℕ = λ k. first_place k h.owners in
    let short : (k : ℕ) → Member k h.owners → place k < length w = λ k m. subst (λ n. place k < n) h.as_long (place_below h.owners k m) in
    let same : (k : ℕ) → Member k h.owners → part (λ other. k == other) h.owners w ≡ part (λ other. place k == other) (map place h.owners) w =
    λ k m. sym (part-map (λ other. place k == other) place h.owners w ∙ part-members (λ j. place k == place j) (λ j. k == j) h.owners w (λ j n. place_test h.owners k j m n)) in (
      record {
        owners = map place h.owners;
        as_long = length_map place h.owners ∙ h.as_long;
        each_has = Each-map place (Each-members h.owners (λ k m. subst Q (same k m) (Each-member h.each_has m)));
      },
      Each-map place (Each-members h.owners short),
    )

-- Values that have to do with what they own

module _ {K A : Type 0} {G : K → A → Type 0} where
  pub owned_pairs : (same : K → K → Bool) → ((v : K) → same v v ≡ true) → (owners : List K) (w : List A) → length owners ≡ length w → ((v : K) → Each (G v) (part (same v) owners w)) → EachPair G owners w
  owned_pairs same s [] [] e h = no_pair
  owned_pairs same s [] (a ∷ w) e h = absurd (omega arith)
  owned_pairs same s (k ∷ owners) [] e h = absurd (omega arith)
  owned_pairs same s (k ∷ owners) (a ∷ w) e h =
      pair
      (cond_first (same k k) a _ (s k) (h k))
      (owned_pairs same s owners w (omega arith) (λ v. cond_rest (same v k) a _ (h v)))

  -- where the items of what has Q v have to do with v, each owner has to do with its item
  pub Owned-pairs : {same : K → K → Bool} {Q : K → List A → Type 0} → ((v : K) → same v v ≡ true) → ((v : K) → GivesEach (G v) (Q v)) → (w : List A) (h : Owned same Q w) → EachPair G h.owners w
  Owned-pairs {same = same} s q w h = owned_pairs same s h.owners w h.as_long (λ v. q v _ (h.each_has v))

-- Pieces that are not empty

record Stripped {A : Type 0} (Q : List A → Type 0) (pieces : List (List A)) : Type 0 where
  left : List (List A)
  whole : joined pieces ≡ joined left
  each_has : Each Q left
  filled : Each (λ piece. piece ≢ []) left

stripped : {A : Type 0} {Q : List A → Type 0} (pieces : List (List A)) → Each Q pieces → Stripped Q pieces
stripped [] h = record { left = []; whole = refl; each_has = no_item; filled = no_item }
stripped ([] ∷ pieces) h =
    let s = stripped pieces (Each-tail h) in
    record { left = s.left; whole = s.whole; each_has = s.each_has; filled = s.filled }
stripped ((a ∷ u) ∷ pieces) h =
    let s = stripped pieces (Each-tail h) in
    record {
      left = (a ∷ u) ∷ s.left;
      whole = ap (λ x. a ∷ (u ++ x)) s.whole;
      each_has = item (Each-head h) s.each_has;
      filled = item (λ e. cc) s.filled;
    }

-- pieces that are not empty suffice
pub Repeated-filled : {A : Type 0} {Q : List A → Type 0} (w : List A) → Repeated Q w → (r : Repeated Q w) × Each (λ piece. piece ≢ []) r.pieces
Repeated-filled w h =
    let s = stripped h.pieces h.each_has in
    (record { pieces = s.left; whole = h.whole ∙ s.whole; each_has = s.each_has }, s.filled)
