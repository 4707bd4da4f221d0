-- The parts of a numbered word with one more item: one part has grown by it, or it makes a part of its own.
use Rattle.std.proofs.Common.{◌≡◌, ◌⊎◌, inl, inr, ℕ, zero, suc, ◌<◌, ◌==◌, Bool, cond, not, List, [], ◌∷◌, ◌++◌, map, filter, length, append_assoc, append-nil, refl, sym, ap, ap₂, ◌∙◌, subst, arith, eq-eqb, ne_eqb, length-append}
use Rattle.ix_words.specs.Each.{Each, no_item, item, Member, here}
use Rattle.ix_words.proofs.Each.{Each-head, Each-tail, Each-weaker, Each-member, Each-members, Each-append, Each-left, Each-right}
use Rattle.ix_words.proofs.Parts.{cut}
use Rattle.ix_words.proofs.Owners.{part-unused}
use Rattle.ix_words.proofs.Laws.{parts_grow}
use Rattle.ix_can.specs.Ways.{is_empty, numbers_below, numberings, nonempty_parts}
use Rattle.ix_can.proofs.Ways.{numbered_part, long_to, long_from, numbers_to, each_below, below_to, below_from}
use Rattle.ix_can.proofs.Bags.{Reordered, behind, and_then, Reordered-sym, Reordered-eq, Reordered-filter, Reordered-map, Taken, first, later, Taken-reordered, Taken-member, Member-taken, taken_along, taken_front, taken_end, taken_kept}

-- Numbers that differ

-- each number stands once
abbrev pub Distinct : List ℕ → Type 0
Distinct [] = Unit {0}
Distinct (n ∷ ns) = Each (λ m. ¬ (m ≡ n)) ns × Distinct ns

distinct_end : (ns : List ℕ) (n : ℕ) → Each (λ m. m < n) ns → Distinct ns → Distinct (ns ++ n ∷ [])
distinct_end [] n b d = (no_item, tt)
distinct_end (m ∷ ns) n b d = (
  Each-append d.0 (item (λ e. let l : m < n = Each-head b in absurd (omega arith)) no_item),
  distinct_end ns n (Each-tail b) d.1,
)

pub distinct_below : (n : ℕ) → Distinct (numbers_below n)
distinct_below zero = tt
distinct_below (suc n) = distinct_end (numbers_below n) n (Each-members (numbers_below n) (λ k m. below_to n k m)) (distinct_below n)

distinct_taken : {k : ℕ} {ns ms : List ℕ} → Taken k ns ms → Distinct ns → Each (λ m. ¬ (m ≡ k)) ms
distinct_taken first d = d.0
distinct_taken (later t) d = item (λ e. Each-member d.0 (Taken-member t) (sym e)) (distinct_taken t d.1)

module _ {A : Type 0} where
  -- whether a part has an item
  abbrev pub filled : List A → Bool
  filled u = not (is_empty u)

  -- the parts of these numbers that aren't empty
  abbrev pub parts_over : List ℕ → List ℕ → List A → List (List A)
  parts_over ns owners w = filter filled (map (numbered_part owners w) ns)

  numbering_is : (w : List A) (owners : List ℕ) → Member owners (numberings w) → (length owners ≡ length w) × Each (λ k. k < length w) owners
  numbering_is w owners m = (long_to (numbers_below (length w)) w owners m, each_below (numbers_to (numbers_below (length w)) w owners m))

  numbering_among : (w : List A) (owners : List ℕ) → length owners ≡ length w → Each (λ k. k < length w) owners → Member owners (numberings w)
  numbering_among w owners l b = long_from (numbers_below (length w)) w owners l (Each-weaker (λ k h. below_from (length w) k h) b)

  -- the pieces are the parts of some numbering, in some order
  pub record IsParted (w : List A) (pieces : List (List A)) : Type 0 where
    pub owners : List ℕ
    pub among : Member owners (numberings w)
    pub same : Reordered (nonempty_parts owners w) pieces

  parted_along : (w : List A) {us vs : List (List A)} → Reordered us vs → IsParted w us → IsParted w vs
  parted_along w r h = record { owners = h.owners; among = h.among; same = and_then h.same r }

  -- One more item for one number

  parts_over_end : (ns : List ℕ) (n : ℕ) (owners : List ℕ) (w : List A) → numbered_part owners w n ≡ [] → parts_over (ns ++ n ∷ []) owners w ≡ parts_over ns owners w
  parts_over_end [] n owners w e = ap (λ u. filter filled (u ∷ [])) e
  parts_over_end (m ∷ ns) n owners w e =
      ap (λ us. cond (filled (numbered_part owners w m)) (numbered_part owners w m ∷ us) us) (parts_over_end ns n owners w e)

  first_filled : (u : List A) (a : A) (us : List (List A)) → filter filled ((u ++ a ∷ []) ∷ us) ≡ (u ++ a ∷ []) ∷ filter filled us
  first_filled [] a us = refl
  first_filled (b ∷ u) a us = refl

  module _ (owners : List ℕ) (w : List A) (k : ℕ) (a : A) (long : length owners ≡ length w) where
    grown : (j : ℕ) → numbered_part (owners ++ k ∷ []) (w ++ a ∷ []) j ≡ numbered_part owners w j ++ cond (j == k) (a ∷ []) []
    grown j = parts_grow (λ other. j == other) owners w k a long

    own_grown : numbered_part (owners ++ k ∷ []) (w ++ a ∷ []) k ≡ numbered_part owners w k ++ a ∷ []
    own_grown = grown k ∙ ap (λ b. numbered_part owners w k ++ cond b (a ∷ []) []) (eq-eqb k k refl)

    other_same : (j : ℕ) → ¬ (j ≡ k) → numbered_part (owners ++ k ∷ []) (w ++ a ∷ []) j ≡ numbered_part owners w j
    other_same j n = grown j ∙ ap (λ b. numbered_part owners w j ++ cond b (a ∷ []) []) (ne_eqb j k n) ∙ append-nil (numbered_part owners w j)

    others_same : (ns : List ℕ) → Each (λ j. ¬ (j ≡ k)) ns → map (numbered_part (owners ++ k ∷ []) (w ++ a ∷ [])) ns ≡ map (numbered_part owners w) ns
    others_same [] h = refl
    others_same (j ∷ ns) h = ap₂ (λ u us. u ∷ us) (other_same j (Each-head h)) (others_same ns (Each-tail h))

    -- one part has grown, and the others are as before
    pub grown_parts : {ns ms : List ℕ} → Taken k ns ms → Distinct ns → Reordered (parts_over ns (owners ++ k ∷ []) (w ++ a ∷ [])) ((numbered_part owners w k ++ a ∷ []) ∷ parts_over ms owners w)
    grown_parts {ns} {ms} t d =
        and_then (Reordered-filter filled (Reordered-map (numbered_part (owners ++ k ∷ []) (w ++ a ∷ [])) (Taken-reordered t)))
        (Reordered-eq
        (ap₂ (λ u us. filter filled (u ∷ us)) own_grown (others_same ms (distinct_taken t d))
        ∙ first_filled (numbered_part owners w k) a (map (numbered_part owners w) ms)))

  -- Numberings of the longer word

  length_end : (w : List A) (a : A) → length (w ++ a ∷ []) ≡ suc (length w)
  length_end w a = omega (arith, length-append w (a ∷ []))

  new_part : (owners : List ℕ) (w : List A) → Each (λ k. k < length w) owners → numbered_part owners w (length w) ≡ []
  new_part owners w h = part-unused (λ other. length w == other) owners w (Each-weaker (λ k b. ne_eqb (length w) k (λ e. absurd (omega arith))) h)

  -- one more item for any number up to the length
  more : (owners : List ℕ) (w : List A) → Member owners (numberings w) → (k : ℕ) (ms : List ℕ) → Taken k (numbers_below (suc (length w))) ms → (a : A) → IsParted (w ++ a ∷ []) ((numbered_part owners w k ++ a ∷ []) ∷ parts_over ms owners w)
  more owners w m k ms t a =
      let h = numbering_is w owners m in
      let n : k < suc (length w) = below_to (suc (length w)) k (Taken-member t) in
      let e : length (w ++ a ∷ []) ≡ suc (length w) = length_end w a in
      record {
        owners = owners ++ k ∷ [];
        among =
            numbering_among (w ++ a ∷ []) (owners ++ k ∷ []) (omega (arith, length-append owners (k ∷ []), length_end w a, h.0))
            (subst (λ l. Each (λ j. j < l) (owners ++ k ∷ [])) (sym e) (Each-append (Each-weaker (λ j b. omega arith) h.1) (item n no_item)));
        same =
            subst (λ l. Reordered (parts_over (numbers_below l) (owners ++ k ∷ []) (w ++ a ∷ [])) ((numbered_part owners w k ++ a ∷ []) ∷ parts_over ms owners w)) (sym e)
            (grown_parts owners w k a h.0 t (distinct_below (suc (length w))));
      }

  -- the item makes a piece of its own
  pub piece_begun : (w : List A) (a : A) {us : List (List A)} → IsParted w us → IsParted (w ++ a ∷ []) ((a ∷ []) ∷ us)
  piece_begun w a {us} h =
      let none : numbered_part h.owners w (length w) ≡ [] = new_part h.owners w (numbering_is w h.owners h.among).1 in
      parted_along (w ++ a ∷ []) (and_then (Reordered-eq (ap (λ u. (u ++ a ∷ []) ∷ nonempty_parts h.owners w) none)) (behind h.same))
      (more h.owners w h.among (length w) (numbers_below (length w)) (taken_end (numbers_below (length w)) (length w)) a)

  -- one of the pieces has grown by the item
  pub piece_grown : (w : List A) (a : A) {u : List A} {us vs : List (List A)} → IsParted w us → Taken u us vs → IsParted (w ++ a ∷ []) ((u ++ a ∷ []) ∷ vs)
  piece_grown w a {u} {us} {vs} h t =
      let j = taken_along (Reordered-sym h.same) t in
      let k = taken_kept (numbered_part h.owners w) filled (numbers_below (length w)) u j.0 j.1 in
      let none : numbered_part h.owners w (length w) ≡ [] = new_part h.owners w (numbering_is w h.owners h.among).1 in
      let rest : parts_over (k.1 ++ length w ∷ []) h.owners w ≡ j.0 = parts_over_end k.1 (length w) h.owners w none ∙ sym k.4 in
      parted_along (w ++ a ∷ []) (and_then (Reordered-eq (ap₂ (λ x xs. (x ++ a ∷ []) ∷ xs) (sym k.3) rest)) (behind (Reordered-sym j.2)))
      (more h.owners w h.among k.0 (k.1 ++ length w ∷ []) (taken_front (length w ∷ []) k.2) a)

  -- the pieces of the longer word come from pieces of the word, by one more item
  pub record Began (w : List A) (a : A) (pieces : List (List A)) : Type 0 where
    pub rest : List (List A)
    pub parted : IsParted w rest
    pub same : Reordered pieces ((a ∷ []) ∷ rest)

  pub record Grew (w : List A) (a : A) (pieces : List (List A)) : Type 0 where
    pub piece : List A
    pub rest : List (List A)
    pub parted : IsParted w (piece ∷ rest)
    pub same : Reordered pieces ((piece ++ a ∷ []) ∷ rest)

  grew_parted : (w : List A) (a : A) {us : List (List A)} → Began w a us ⊎ Grew w a us → IsParted (w ++ a ∷ []) us
  grew_parted w a (inl h) = parted_along (w ++ a ∷ []) (Reordered-sym h.same) (piece_begun w a h.parted)
  grew_parted w a (inr h) = parted_along (w ++ a ∷ []) (Reordered-sym h.same) (piece_grown w a h.parted first)

  one_more : (owners : List ℕ) (w : List A) (k : ℕ) (a : A) → length owners ≡ length w → (ns : List ℕ) → Distinct ns → Member k ns → IsParted w (parts_over ns owners w) → Began w a (parts_over ns (owners ++ k ∷ []) (w ++ a ∷ [])) ⊎ Grew w a (parts_over ns (owners ++ k ∷ []) (w ++ a ∷ []))
  one_more owners w k a long ns d m h =
      let t = Member-taken m in
      by_case t.0 (numbered_part owners w k) refl (grown_parts owners w k a long t.1 d)
      (parted_along w (Reordered-filter filled (Reordered-map (numbered_part owners w) (Taken-reordered t.1))) h)
    where
      by_case : (ms : List ℕ) (u : List A) → numbered_part owners w k ≡ u → Reordered (parts_over ns (owners ++ k ∷ []) (w ++ a ∷ [])) ((numbered_part owners w k ++ a ∷ []) ∷ parts_over ms owners w) → IsParted w (parts_over (k ∷ ms) owners w) → Began w a (parts_over ns (owners ++ k ∷ []) (w ++ a ∷ [])) ⊎ Grew w a (parts_over ns (owners ++ k ∷ []) (w ++ a ∷ []))
      by_case ms [] e r p = inl (record {
        rest = parts_over ms owners w;
        parted = subst (λ u. IsParted w (filter filled (u ∷ map (numbered_part owners w) ms))) e p;
        same = subst (λ u. Reordered (parts_over ns (owners ++ k ∷ []) (w ++ a ∷ [])) ((u ++ a ∷ []) ∷ parts_over ms owners w)) e r;
      })
      by_case ms (b ∷ u) e r p = inr (record {
        piece = b ∷ u;
        rest = parts_over ms owners w;
        parted = subst (λ x. IsParted w (filter filled (x ∷ map (numbered_part owners w) ms))) e p;
        same = subst (λ x. Reordered (parts_over ns (owners ++ k ∷ []) (w ++ a ∷ [])) ((x ++ a ∷ []) ∷ parts_over ms owners w)) e r;
      })

  no_parts : (ns : List ℕ) → parts_over ns [] [] ≡ []
  no_parts [] = refl
  no_parts (n ∷ ns) = no_parts ns

  -- the parts of any numbers are those of numbers below the length, item by item
  all_parted : (ns : List ℕ) → Distinct ns → (more_owners : List ℕ) (v : List A) → length more_owners ≡ length v → Each (λ k. Member k ns) more_owners → (owners : List ℕ) (w : List A) → length owners ≡ length w → IsParted w (parts_over ns owners w) → IsParted (w ++ v) (parts_over ns (owners ++ more_owners) (w ++ v))
  all_parted ns d [] [] l m owners w long h =
      subst (λ x. IsParted x (parts_over ns (owners ++ []) x)) (sym (append-nil w)) (subst (λ ks. IsParted w (parts_over ns ks w)) (sym (append-nil owners)) h)
  all_parted ns d [] (a ∷ v) l m owners w long h = absurd (omega arith)
  all_parted ns d (k ∷ ks) [] l m owners w long h = absurd (omega arith)
  all_parted ns d (k ∷ ks) (a ∷ v) l m owners w long h =
      let long' : length (owners ++ k ∷ []) ≡ length (w ++ a ∷ []) = omega (arith, length-append owners (k ∷ []), length-append w (a ∷ [])) in
      let j = all_parted ns d ks v (omega arith) (Each-tail m) (owners ++ k ∷ []) (w ++ a ∷ []) long' (grew_parted w a (one_more owners w k a long ns d (Each-head m) h)) in
      subst (λ x. IsParted x (parts_over ns (owners ++ k ∷ ks) x)) (append_assoc w (a ∷ []) v)
      (subst (λ os. IsParted ((w ++ a ∷ []) ++ v) (parts_over ns os ((w ++ a ∷ []) ++ v))) (append_assoc owners (k ∷ []) ks) j)

  renumbered : (ns : List ℕ) → Distinct ns → (owners : List ℕ) (w : List A) → length owners ≡ length w → Each (λ k. Member k ns) owners → IsParted w (parts_over ns owners w)
  renumbered ns d owners w l m = all_parted ns d owners w l m [] [] refl (record { owners = []; among = here; same = Reordered-eq (sym (no_parts ns)) })

  -- the last item of the longer word has begun a piece, or one has grown by it
  pub parted_end : (w : List A) (a : A) {us : List (List A)} → IsParted (w ++ a ∷ []) us → Began w a us ⊎ Grew w a us
  parted_end w a {us} h =
      let c = cut h.owners w (a ∷ []) (numbering_is (w ++ a ∷ []) h.owners h.among).0 in
      along (last c.first c.second c.whole c.first_long c.second_long)
    where
      along : Began w a (nonempty_parts h.owners (w ++ a ∷ [])) ⊎ Grew w a (nonempty_parts h.owners (w ++ a ∷ [])) → Began w a us ⊎ Grew w a us
      along (inl b) = inl (record { rest = b.rest; parted = b.parted; same = and_then (Reordered-sym h.same) b.same })
      along (inr g) = inr (record { piece = g.piece; rest = g.rest; parted = g.parted; same = and_then (Reordered-sym h.same) g.same })

      last : (ks ls : List ℕ) → h.owners ≡ ks ++ ls → length ks ≡ length w → length ls ≡ length (a ∷ []) → Began w a (nonempty_parts h.owners (w ++ a ∷ [])) ⊎ Grew w a (nonempty_parts h.owners (w ++ a ∷ []))
      last ks [] e l m = absurd (omega arith)
      last ks (k ∷ []) e l m =
          let ns : List ℕ = numbers_below (length (w ++ a ∷ [])) in
          let all : Each (λ j. Member j ns) (ks ++ k ∷ []) = subst (Each (λ j. Member j ns)) e (numbers_to ns (w ++ a ∷ []) h.owners h.among) in
          subst (λ os. Began w a (nonempty_parts os (w ++ a ∷ [])) ⊎ Grew w a (nonempty_parts os (w ++ a ∷ []))) (sym e)
          (one_more ks w k a l ns (distinct_below (length (w ++ a ∷ []))) (Each-head (Each-right ks (k ∷ []) all))
          (renumbered ns (distinct_below (length (w ++ a ∷ []))) ks w l (Each-left ks (k ∷ []) all)))
      last ks (k ∷ j ∷ ls) e l m = absurd (omega arith)
