-- Words with one more action: how they are cut, split, numbered and projected.
use Rattle.std.proofs.Common.{◌≡◌, ◌↔◌, ◌⊎◌, inl, inr, Bool, true, false, cond, List, [], ◌∷◌, ◌++◌, map, filter, append_assoc, append-nil, refl, sym, ap, ◌∙◌, subst}
use Rattle.ix_words.specs.Each.{Each, no_item, item, Member, here, there}
use Rattle.ix_words.specs.Parts.{joined}
use Rattle.ix_words.specs.Words.{Joined, Repeated, Split}
use Rattle.ix_words.specs.Canon.{cuts, splits, with_end, give_end}
use Rattle.ix_words.proofs.Each.{Each-head, Each-tail, Member-either}
use Rattle.ix_words.proofs.Canon.{Member-cases, Member-map, Member-flat_map, flat_map-Member}
use Rattle.ix_words.proofs.Owners.{Repeated-filled}
use Rattle.ix_words.proofs.Words.{reach}
use Rattle.ix_words.proofs.Ways.{cut_is, cuts-end, splits-end, ways_from_joined, split_from_ways, ways_from_split}
use Rattle.ix_can.proofs.Lists.{SomeWay}

module _ {A : Type 0} where
  nothing_both : (u v : List A) → u ++ v ≡ [] → (u ≡ []) × (v ≡ [])
  nothing_both [] v e = (refl, e)
  nothing_both (a ∷ u) v e = absurd (cc)

  -- a way to cut w before what has R behind one more action, or the whole
  pub joined_end : {Q R : List A → Type 0} (w : List A) (a : A) → Joined Q R (w ++ a ∷ []) → (Q (w ++ a ∷ []) × R []) ⊎ SomeWay (λ c. Q c.0 × R (c.1 ++ a ∷ [])) (cuts w)
  joined_end {Q} {R} w a h =
      let k = ways_from_joined (w ++ a ∷ []) h in
      elim (Member-either (map (with_end a) (cuts w)) ((w ++ a ∷ [], []) ∷ []) (subst (Member k.0) (cuts-end w a) k.1)) [
        | inl m ↦
            let j = Member-map (with_end a) (cuts w) m in
            inr (record { way = j.0; among = j.1; has = (subst (λ (c : List A × List A). Q c.0) j.2 k.2, subst (λ (c : List A × List A). R c.1) j.2 k.3) })
        | inr n ↦ elim (Member-cases n) [
          | inl e ↦ inl (subst (λ (c : List A × List A). Q c.0) e k.2, subst (λ (c : List A × List A). R c.1) e k.3)
          | inr o ↦ elim o [ ]
        ]
      ]

  pub joined_more : {Q R : List A → Type 0} (w : List A) (a : A) → SomeWay (λ c. Q c.0 × R (c.1 ++ a ∷ [])) (cuts w) → Joined Q R (w ++ a ∷ [])
  joined_more w a k = record {
    front = k.way.0;
    back = k.way.1 ++ a ∷ [];
    whole = ap (λ x. x ++ a ∷ []) (cut_is w k.way k.among) ∙ append_assoc k.way.0 k.way.1 (a ∷ []);
    front_has = k.has.0;
    back_has = k.has.1;
  }

  -- a split of the longer word is one of w with the action given to one side
  pub split_end : {Q R : List A → Type 0} (w : List A) (a : A) → Split Q R (w ++ a ∷ []) ↔ SomeWay (λ s. (Q (s.0 ++ a ∷ []) × R s.1) ⊎ (Q s.0 × R (s.1 ++ a ∷ []))) (splits w)
  split_end {Q} {R} w a = (
    λ h.
        let k = ways_from_split (w ++ a ∷ []) h in
        let j = Member-flat_map (give_end a) (splits w) ((splits-end w a).to k.0 k.1) in
        record { way = j.0; among = j.1; has = one j.0 k.0 k.2 k.3 (Member-cases j.2) },
    λ k. elim k.has [
      | inl q ↦ split_from_ways (w ++ a ∷ []) (k.way.0 ++ a ∷ [], k.way.1) ((splits-end w a).from (k.way.0 ++ a ∷ [], k.way.1) (flat_map-Member (give_end a) k.among here)) q.0 q.1
      | inr q ↦ split_from_ways (w ++ a ∷ []) (k.way.0, k.way.1 ++ a ∷ []) ((splits-end w a).from (k.way.0, k.way.1 ++ a ∷ []) (flat_map-Member (give_end a) k.among (there here))) q.0 q.1
    ],
  )
    where
      one : (s t : List A × List A) → Q t.0 → R t.1 → (t ≡ (s.0 ++ a ∷ [], s.1)) ⊎ Member t ((s.0, s.1 ++ a ∷ []) ∷ []) → (Q (s.0 ++ a ∷ []) × R s.1) ⊎ (Q s.0 × R (s.1 ++ a ∷ []))
      one s t q r (inl e) = inl (subst (λ (c : List A × List A). Q c.0) e q, subst (λ (c : List A × List A). R c.1) e r)
      one s t q r (inr n) = elim (Member-cases n) [
        | inl e ↦ inr (subst (λ (c : List A × List A). Q c.0) e q, subst (λ (c : List A × List A). R c.1) e r)
        | inr o ↦ elim o [ ]
      ]

  -- the last piece of a concatenation that has a last item
  last_piece : {C : List A → Type 0} (pieces : List (List A)) (w : List A) (a : A) → Each C pieces → Each (λ piece. ¬ (piece ≡ [])) pieces → w ++ a ∷ [] ≡ joined pieces → Joined (Repeated C) (λ v. C (v ++ a ∷ [])) w
  last_piece [] w a h f e = let k = nothing_both w (a ∷ []) e in let n : a ∷ [] ≡ [] = k.1 in absurd (cc)
  last_piece {C} (p ∷ pieces) w a h f e = elim (reach p (joined pieces) w (a ∷ []) e) [
    | inl r ↦ inside pieces (Each-tail f) r.middle r.over r.rest (λ g. last_piece pieces [] a (Each-tail h) (Each-tail f) g)
    | inr r ↦ behind r.middle r.over (last_piece pieces r.middle a (Each-tail h) (Each-tail f) (sym r.rest))
  ]
    where
      behind : (m : List A) → w ≡ p ++ m → Joined (Repeated C) (λ v. C (v ++ a ∷ [])) m → Joined (Repeated C) (λ v. C (v ++ a ∷ [])) w
      behind m o j = record {
        front = p ++ j.front;
        back = j.back;
        whole = o ∙ ap (λ x. p ++ x) j.whole ∙ sym (append_assoc p j.front j.back);
        front_has = record { pieces = p ∷ j.front_has.pieces; whole = ap (λ x. p ++ x) j.front_has.whole; each_has = item (Each-head h) j.front_has.each_has };
        back_has = j.back_has;
      }

      inside : (qs : List (List A)) → Each (λ piece. ¬ (piece ≡ [])) qs → (m : List A) → p ≡ w ++ m → a ∷ [] ≡ m ++ joined qs → (a ∷ [] ≡ joined qs → Joined (Repeated C) (λ v. C (v ++ a ∷ [])) []) → Joined (Repeated C) (λ v. C (v ++ a ∷ [])) w
      inside [] g m o r later = record {
        front = [];
        back = w;
        whole = refl;
        front_has = record { pieces = []; whole = refl; each_has = no_item };
        back_has = subst C (o ∙ ap (λ x. w ++ x) (sym (append-nil m) ∙ sym r)) (Each-head h);
      }
      inside ([] ∷ qs) g m o r later = absurd (Each-head g refl)
      inside ((b ∷ u) ∷ qs) g [] o r later = behind [] (sym (append-nil w) ∙ sym o ∙ sym (append-nil p)) (later r)
      inside ((b ∷ u) ∷ qs) g (c ∷ m) o r later =
          let rest : [] ≡ m ++ (b ∷ (u ++ joined qs)) = cc in
          let k = nothing_both m (b ∷ (u ++ joined qs)) (sym rest) in
          let n : b ∷ (u ++ joined qs) ≡ [] = k.1 in
          absurd (cc)

  pub repeated_end : {C : List A → Type 0} (w : List A) (a : A) → Repeated C (w ++ a ∷ []) → Joined (Repeated C) (λ v. C (v ++ a ∷ [])) w
  repeated_end w a h =
      let k = Repeated-filled (w ++ a ∷ []) h in
      last_piece k.0.pieces w a k.0.each_has k.1 k.0.whole

  -- what passes at the end stands at the end
  pub filter_end : (test : A → Bool) (w : List A) (a : A) → filter test (w ++ a ∷ []) ≡ filter test w ++ cond (test a) (a ∷ []) []
  filter_end test [] a = refl
  filter_end test (b ∷ w) a = ap (λ x. cond (test b) (b ∷ x) x) (filter_end test w a) ∙ moved (test b) b (filter test w) (cond (test a) (a ∷ []) [])
    where
      moved : (t : Bool) (b : A) (u v : List A) → cond t (b ∷ (u ++ v)) (u ++ v) ≡ cond t (b ∷ u) u ++ v
      moved true b u v = refl
      moved false b u v = refl
