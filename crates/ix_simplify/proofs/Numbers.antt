-- Words with owner numbers, put together of such words again.
use Rattle.std.proofs.Common.{◌≡◌, ◌≢◌, ◌⊎◌, inl, inr, ℕ, zero, suc, ◌+◌, ◌≤◌, Bool, true, false, not, cond, ◌==◌, List, [], ◌∷◌, ◌++◌, length, map}
use Rattle.std.proofs.Common.{append-nil, refl, sym, ap, ◌∙◌, subst, arith, true≢false, eqb-true, eq-eqb}
use Rattle.std.specs.Cmp.{both_ways}
use Rattle.std.proofs.lemmas.List.{length-map}
use Rattle.std.proofs.Common.{length-append}
use Rattle.ix_words.specs.Each.{Each, no_item, item, Member, here, there}
use Rattle.ix_words.specs.Parts.{part, joined}
use Rattle.ix_words.specs.Words.{Joined, Repeated, Split, Numbered}
use Rattle.ix_words.proofs.Each.{Each-head, Each-tail, Each-weaker, Each-both, Each-member, Each-anything}
use Rattle.ix_words.proofs.Parts.{part-nil, part-append, part-each}
use Rattle.ix_words.proofs.Owners.{part-map, Each-map}
use Rattle.ix_words.proofs.Words.{Numbered-empty}
use Rattle.ix_simplify.proofs.Pieces.{Joined-of}

-- Words with one owner

module _ {K A : Type 0} where
  part_all : (mine : K → Bool) (k : K) (w : List A) → mine k ≡ true → part mine (map (λ (a : A). k) w) w ≡ w
  part_all mine k [] e = refl
  part_all mine k (a ∷ w) e =
      ap (λ b. cond b (a ∷ part mine (map (λ (a : A). k) w) w) (part mine (map (λ (a : A). k) w) w)) e ∙ ap (λ x. a ∷ x) (part_all mine k w e)

  part_none : (mine : K → Bool) (k : K) (w : List A) → mine k ≡ false → part mine (map (λ (a : A). k) w) w ≡ []
  part_none mine k [] e = refl
  part_none mine k (a ∷ w) e =
      ap (λ b. cond b (a ∷ part mine (map (λ (a : A). k) w) w) (part mine (map (λ (a : A). k) w) w)) e ∙ part_none mine k w e

module _ {A : Type 0} where
  pub Numbered-one : {Q : List A → Type 0} (w : List A) → Q w → Numbered Q w
  Numbered-one {Q} w q = record {
    owners = map (λ (a : A). 0) w;
    as_long = length-map w (λ (a : A). 0);
    each_has = Each-map (λ (a : A). 0) (Each-anything (λ a. subst Q (sym (part_all (λ other. 0 == other) 0 w refl)) q) w);
  }

  marked-front : (mine : Bool → Bool) (u v : List A) → mine true ≡ true → mine false ≡ false
      → part mine (map (λ (a : A). true) u ++ map (λ (a : A). false) v) (u ++ v) ≡ u
  marked-front mine u v e f =
      part-append mine (map (λ (a : A). true) u) (map (λ (a : A). false) v) u v (length-map u (λ (a : A). true))
      ∙ (λ i. part_all mine true u e i ++ part_none mine false v f i) ∙ append-nil u

  marked-back : (mine : Bool → Bool) (u v : List A) → mine true ≡ false → mine false ≡ true
      → part mine (map (λ (a : A). true) u ++ map (λ (a : A). false) v) (u ++ v) ≡ v
  marked-back mine u v e f =
      part-append mine (map (λ (a : A). true) u) (map (λ (a : A). false) v) u v (length-map u (λ (a : A). true))
      ∙ (λ i. part_none mine true u e i ++ part_all mine false v f i)

  -- a front on the left and a back on the right
  pub Joined-split : {Q R : List A → Type 0} (w : List A) → Joined Q R w → Split Q R w
  Joined-split {Q} {R} w h =
      let u = h.front in
      let v = h.back in
      let lefts = map (λ (a : A). true) u in
      let rights = map (λ (a : A). false) v in
      let marks = lefts ++ rights in
      let left_long = length-map u (λ (a : A). true) in
      let right_long = length-map v (λ (a : A). false) in
      let long : length marks ≡ length (u ++ v) = omega (arith, length-append lefts rights, length-append u v, left_long, right_long) in
      let whole : Split Q R (u ++ v) = record {
        marks = marks;
        as_long = long;
        left_has = subst Q (sym (marked-front (λ mark. mark) u v refl refl)) h.front_has;
        right_has = subst R (sym (marked-back not u v refl refl)) h.back_has;
      } in
      subst (Split Q R) (sym h.whole) whole

-- The owners of two words that stand side by side: those of the left doubled, those of the right doubled and one more

double : (k l : ℕ) → ((k + k) == (l + l)) ≡ (k == l)
double k l = both_ways ((k + k) == (l + l)) (k == l)
    (λ e. let f : k + k ≡ l + l = eqb-true (k + k) (l + l) e in eq-eqb k l (omega arith))
    (λ e. eq-eqb (k + k) (l + l) (ap (λ i. i + i) (eqb-true k l e)))

double_more : (k l : ℕ) → (suc (k + k) == suc (l + l)) ≡ (k == l)
double_more k l = both_ways (suc (k + k) == suc (l + l)) (k == l)
    (λ e. let f : suc (k + k) ≡ suc (l + l) = eqb-true (suc (k + k)) (suc (l + l)) e in eq-eqb k l (omega arith))
    (λ e. eq-eqb (suc (k + k)) (suc (l + l)) (ap (λ i. suc (i + i)) (eqb-true k l e)))

differ : (m n : ℕ) → m ≢ n → (m == n) ≡ false
differ m n d = both_ways (m == n) false (λ e. absurd (d (eqb-true m n e))) (λ e. absurd (true≢false (sym e)))

apart : (k l : ℕ) → (k + k == suc (l + l)) ≡ false
apart k l = differ (k + k) (suc (l + l)) (λ e. absurd (omega arith))

apart_more : (k l : ℕ) → (suc (k + k) == l + l) ≡ false
apart_more k l = differ (suc (k + k)) (l + l) (λ e. absurd (omega arith))

-- the number is that of one of the left owners or of one of the right
abbrev IsOf : List ℕ → List ℕ → ℕ → Type 0
IsOf ls rs o = ((l : ℕ) × Member l ls × (o ≡ l + l)) ⊎ ((r : ℕ) × Member r rs × (o ≡ suc (r + r)))

more_left : (l : ℕ) (ls rs : List ℕ) (o : ℕ) → IsOf ls rs o → IsOf (l ∷ ls) rs o
more_left l ls rs o (inl h) = inl (h.0, there h.1, h.2)
more_left l ls rs o (inr h) = inr h

more_right : (r : ℕ) (ls rs : List ℕ) (o : ℕ) → IsOf ls rs o → IsOf ls (r ∷ rs) o
more_right r ls rs o (inl h) = inl h
more_right r ls rs o (inr h) = inr (h.0, there h.1, h.2)

record Woven {A : Type 0} (w left right : List A) (ls rs : List ℕ) : Type 0 where
  owners : List ℕ
  as_long : length owners ≡ length w
  lefts : (k : ℕ) → part (λ other. k + k == other) owners w ≡ part (λ other. k == other) ls left
  rights : (k : ℕ) → part (λ other. suc (k + k) == other) owners w ≡ part (λ other. k == other) rs right
  each : Each (IsOf ls rs) owners

module _ {A : Type 0} where
  woven : (marks : List Bool) (w : List A) (ls rs : List ℕ) → length marks ≡ length w → length ls ≡ length (part (λ mark. mark) marks w)
      → length rs ≡ length (part not marks w)
      → Woven w (part (λ mark. mark) marks w) (part not marks w) ls rs
  woven [] [] ls rs e f g = record {
    owners = [];
    as_long = refl;
    lefts = λ k. sym (part-nil (λ other. k == other) ls);
    rights = λ k. sym (part-nil (λ other. k == other) rs);
    each = no_item;
  }
  woven [] (a ∷ w) ls rs e f g = absurd (omega arith)
  woven (m ∷ marks) [] ls rs e f g = absurd (omega arith)
  woven (true ∷ marks) (a ∷ w) [] rs e f g = absurd (omega arith)
  woven (true ∷ marks) (a ∷ w) (l ∷ ls) rs e f g =
      let left = part (λ mark. mark) marks w in
      let right = part not marks w in
      let r : Woven w left right ls rs = woven marks w ls rs (omega arith) (omega arith) g in
      record {
        owners = (l + l) ∷ r.owners;
        as_long = ap suc r.as_long;
        lefts = λ k.
            let rest = part (λ other. k + k == other) r.owners w in
            ap (λ b. cond b (a ∷ rest) rest) (double k l) ∙ ap (λ x. cond (k == l) (a ∷ x) x) (r.lefts k);
        rights = λ k.
            let rest = part (λ other. suc (k + k) == other) r.owners w in
            ap (λ b. cond b (a ∷ rest) rest) (apart_more k l) ∙ r.rights k;
        each = item (inl (l, here, refl)) (Each-weaker (more_left l ls rs) r.each);
      }
  woven (false ∷ marks) (a ∷ w) ls [] e f g = absurd (omega arith)
  woven (false ∷ marks) (a ∷ w) ls (l ∷ rs) e f g =
      let left = part (λ mark. mark) marks w in
      let right = part not marks w in
      let r : Woven w left right ls rs = woven marks w ls rs (omega arith) f (omega arith) in
      record {
        owners = suc (l + l) ∷ r.owners;
        as_long = ap suc r.as_long;
        lefts = λ k.
            let rest = part (λ other. k + k == other) r.owners w in
            ap (λ b. cond b (a ∷ rest) rest) (apart k l) ∙ r.lefts k;
        rights = λ k.
            let rest = part (λ other. suc (k + k) == other) r.owners w in
            ap (λ b. cond b (a ∷ rest) rest) (double_more k l) ∙ ap (λ x. cond (k == l) (a ∷ x) x) (r.rights k);
        each = item (inr (l, here, refl)) (Each-weaker (more_right l ls rs) r.each);
      }

  -- words with owner numbers that stand side by side have owner numbers together
  pub Numbered-both : {Q : List A → Type 0} (w : List A) → Split (Numbered Q) (Numbered Q) w → Numbered Q w
  Numbered-both {Q} w h =
      let ls = h.left_has.owners in
      let rs = h.right_has.owners in
      let k = woven h.marks w ls rs h.as_long h.left_has.as_long h.right_has.as_long in
      let at : (o i : ℕ) → o ≡ i → Q (part (λ other. i == other) k.owners w) → Q (part (λ other. o == other) k.owners w) =
      λ o i e q. subst (λ j. Q (part (λ other. j == other) k.owners w)) (sym e) q in
      let of : (o : ℕ) → IsOf ls rs o → Q (part (λ other. o == other) k.owners w) = λ o c. elim c [
        | inl x ↦ at o _ x.2 (subst Q (sym (k.lefts x.0)) (Each-member h.left_has.each_has x.1))
        | inr x ↦ at o _ x.2 (subst Q (sym (k.rights x.0)) (Each-member h.right_has.each_has x.1))
      ] in
      record { owners = k.owners; as_long = k.as_long; each_has = Each-weaker of k.each }

  pub Numbered-joined : {Q : List A → Type 0} (u v : List A) → Numbered Q u → Numbered Q v → Numbered Q (u ++ v)
  Numbered-joined u v h k = Numbered-both (u ++ v) (Joined-split (u ++ v) (Joined-of u v h k))

  pieces-numbered : {Q R : List A → Type 0} → ((u : List A) → R u → Numbered Q u) → (pieces : List (List A)) → Each R pieces
      → Numbered Q (joined pieces)
  pieces-numbered f [] h = Numbered-empty
  pieces-numbered f (piece ∷ pieces) h =
      Numbered-joined piece (joined pieces) (f piece (Each-head h)) (pieces-numbered f pieces (Each-tail h))

  -- pieces with owner numbers, one behind the other
  pub Repeated-numbered : {Q R : List A → Type 0} → ((u : List A) → R u → Numbered Q u) → (w : List A) → Repeated R w → Numbered Q w
  Repeated-numbered {Q} f w h = subst (Numbered Q) (sym h.whole) (pieces-numbered f h.pieces h.each_has)

-- What is left without one owner

module _ {A : Type 0} where
  not_kept : (c : Bool) (a : A) (y : List A) → ¬ (c ≡ true) → cond c (a ∷ y) y ≡ y
  not_kept true a y n = absurd (n refl)
  not_kept false a y n = refl

  no_longer : (b : Bool) (a : A) (v : List A) (n : ℕ) → length v ≤ n → length (cond b (a ∷ v) v) ≤ suc n
  no_longer true a v n h = omega arith
  no_longer false a v n h = omega arith

module _ {K A : Type 0} where
  one_left : (g : K → Bool) (b : Bool) (k : K) (a : A) (ks : List K) (v y : List A) → (g k ≡ true → b ≡ true) → part g ks v ≡ y
      → part g (cond b (k ∷ ks) ks) (cond b (a ∷ v) v) ≡ cond (g k) (a ∷ y) y
  one_left g true k a ks v y e h = ap (λ x. cond (g k) (a ∷ x) x) h
  one_left g false k a ks v y e h = h ∙ sym (not_kept (g k) a y (λ t. true≢false (sym (e t))))

  -- a part of a part
  part-part : (f g : K → Bool) (owners : List K) (w : List A) → ((k : K) → g k ≡ true → f k ≡ true)
      → part g (part f owners owners) (part f owners w) ≡ part g owners w
  part-part f g [] w e = refl
  part-part f g (k ∷ owners) [] e = part-nil g (part f (k ∷ owners) (k ∷ owners))
  part-part f g (k ∷ owners) (a ∷ w) e =
      one_left g (f k) k a (part f owners owners) (part f owners w) (part g owners w) (e k) (part-part f g owners w e)

  both_long : (b : Bool) (k : K) (a : A) (ks : List K) (v : List A) → length ks ≡ length v → length (cond b (k ∷ ks) ks) ≡ length (cond b (a ∷ v) v)
  both_long true k a ks v e = ap suc e
  both_long false k a ks v e = e

  part-long : (f : K → Bool) (owners : List K) (w : List A) → length owners ≡ length w → length (part f owners owners) ≡ length (part f owners w)
  part-long f [] w e = refl
  part-long f (k ∷ owners) [] e = absurd (omega arith)
  part-long f (k ∷ owners) (a ∷ w) e = both_long (f k) k a (part f owners owners) (part f owners w) (part-long f owners w (omega arith))

  part-short : (f : K → Bool) (owners : List K) (w : List A) → length (part f owners w) ≤ length w
  part-short f [] w = omega arith
  part-short f (k ∷ owners) [] = omega arith
  part-short f (k ∷ owners) (a ∷ w) = no_longer (f k) a (part f owners w) (length w) (part-short f owners w)

  -- the first is left out
  part-shorter : (f : K → Bool) (k : K) (owners : List K) (a : A) (w : List A) → f k ≡ false → length (part f (k ∷ owners) (a ∷ w)) ≤ length w
  part-shorter f k owners a w e =
      let rest = part f owners w in
      subst (λ b. length (cond b (a ∷ rest) rest) ≤ length w) (sym e) (part-short f owners w)

module _ {K : Type 0} where
  own : (f : K → Bool) (b : Bool) (k : K) (ks : List K) → f k ≡ b → Each (λ j. f j ≡ true) ks → Each (λ j. f j ≡ true) (cond b (k ∷ ks) ks)
  own f true k ks e h = item e h
  own f false k ks e h = h

  part-own : (f : K → Bool) (owners : List K) → Each (λ j. f j ≡ true) (part f owners owners)
  part-own f [] = no_item
  part-own f (k ∷ owners) = own f (f k) k (part f owners owners) refl (part-own f owners)

not_true : (b : Bool) → not b ≡ true → b ≡ true → ⊥
not_true true e f = true≢false (sym e)
not_true false e f = true≢false (sym f)

is_false : (b : Bool) → b ≡ true → not b ≡ false
is_false true e = refl
is_false false e = absurd (true≢false (sym e))

module _ {A : Type 0} where
  -- owners without k own, each of them, what they owned
  without : {R : List A → Type 0} (k : ℕ) (owners : List ℕ) (w : List A) → length owners ≡ length w
      → Each (λ o. R (part (λ other. o == other) owners w)) owners
      → Numbered R (part (λ j. not (k == j)) owners w)
  without {R} k owners w e h =
      let f : ℕ → Bool = λ j. not (k == j) in
      let stays : (j : ℕ) → f j ≡ true → (i : ℕ) → (j == i) ≡ true → f i ≡ true = λ j t i s. subst (λ m. f m ≡ true) (eqb-true j i s) t in
      record {
        owners = part f owners owners;
        as_long = part-long f owners w e;
        each_has = Each-weaker
            (λ j g. subst R (sym (part-part f (λ other. j == other) owners w (stays j g.1))) g.0)
            (Each-both (part-each f owners h) (part-own f owners));
      }

  first_away : {Q R : List A → Type 0} (n : ℕ) → ((u : List A) → R u → Numbered Q u) → ((v : List A) → length v ≤ n → Numbered R v → Numbered Q v)
      → (a : A) (w : List A) (owners : List ℕ) → length owners ≡ suc (length w) → length w ≤ n
      → Each (λ o. R (part (λ other. o == other) owners (a ∷ w))) owners → Numbered Q (a ∷ w)
  first_away n lead rest a w [] e less h = absurd (omega arith)
  first_away {Q} n lead rest a w (k ∷ owners) e less h =
      let all : List ℕ = k ∷ owners in
      let mine : ℕ → Bool = λ other. k == other in
      let others : ℕ → Bool = λ j. not (k == j) in
      let short = part-shorter others k owners a w (is_false (k == k) (eq-eqb k k refl)) in
      let left : Numbered Q (part mine all (a ∷ w)) = lead (part mine all (a ∷ w)) (Each-head h) in
      let right : Numbered Q (part others all (a ∷ w)) = rest (part others all (a ∷ w)) (omega (arith, short, less)) (without k all (a ∷ w) e h) in
      Numbered-both (a ∷ w) (record {
        marks = map mine all;
        as_long = length-map all mine ∙ e;
        left_has = subst (Numbered Q) (sym (part-map (λ mark. mark) mine all (a ∷ w))) left;
        right_has = subst (Numbered Q) (sym (part-map not mine all (a ∷ w))) right;
      })

  fold : {Q R : List A → Type 0} (n : ℕ) → ((u : List A) → R u → Numbered Q u) → (w : List A) → length w ≤ n → Numbered R w → Numbered Q w
  fold n lead [] less h = Numbered-empty
  fold zero lead (a ∷ w) less h = absurd (omega arith)
  fold (suc n) lead (a ∷ w) less h = first_away n lead (fold n lead) a w h.owners h.as_long (omega arith) h.each_has

  -- a word whose parts have owner numbers each has owner numbers as a whole
  pub Numbered-fold : {Q R : List A → Type 0} → ((u : List A) → R u → Numbered Q u) → (w : List A) → Numbered R w → Numbered Q w
  Numbered-fold lead w h = fold (length w) lead w (omega arith) h
