-- The lists of ways hold all ways: pieces, numbers and values as owners.
use Rattle.std.proofs.Common.{◌≡◌, ◌↔◌, ◌⊎◌, inl, inr, ℕ, zero, suc, ◌<◌, ◌==◌, Bool, true, false, not, List, [], ◌∷◌, ◌++◌, map, length, refl, sym, ap, ◌∙◌, subst, true≢false, arith, eqb-true, eq-eqb}
use Rattle.std.specs.List.{list_all}
use Rattle.ix_words.specs.Each.{Each, no_item, item, Member, here, there, EachPair, no_pair, pair}
use Rattle.ix_words.specs.Parts.{part, joined}
use Rattle.ix_words.specs.Words.{Joined, Repeated, Split, Numbered}
use Rattle.ix_words.specs.Canon.{cuts, splits}
use Rattle.ix_words.proofs.Each.{Each-head, Each-tail, Each-weaker, Each-member, Each-members, Member-left, Member-right, Member-either}
use Rattle.ix_words.proofs.Canon.{Member-cases, Member-same, Member-flat_map, flat_map-Member, Member-map, map-Member}
use Rattle.ix_words.proofs.Owners.{part-used, part-unused, Numbered-below, Repeated-filled}
use Rattle.ix_words.proofs.Ways.{split_from_ways, ways_from_split, joined_from_ways, ways_from_joined}
use Rattle.ix_values.specs.PlainAction.{PlainAction, Word}
use Rattle.ix_can.specs.Ways.{is_empty, begin_or_join, ways_into_pieces, is_concatenation, numbers_below, lists_as_long, numberings, nonempty_parts, ownings}
use Rattle.ix_words.proofs.Deciding.{any_says}
use Rattle.ix_can.proofs.Lists.{all_are, SomeWay, Member-filter, filter-Member, when_not, filled_says}

-- Numbers as owners

pub below_to : (n k : ℕ) → Member k (numbers_below n) → k < n
below_to zero k m = elim m [ ]
below_to (suc n) k m =
    elim (Member-either (numbers_below n) (n ∷ []) m) [
      | inl l ↦ let h : k < n = below_to n k l in omega arith
      | inr r ↦ elim (Member-cases r) [ inl e ↦ omega arith | inr s ↦ elim s [ ] ]
    ]

below_either : (n k : ℕ) → k < suc n → (k < n) ⊎ (k ≡ n)
below_either n k h = elim (eq_or_not (k == n) refl) [ inl e ↦ inr (eqb-true k n e) | inr d ↦ inl (smaller d) ]
  where
    eq_or_not : (b : Bool) → (k == n) ≡ b → ((k == n) ≡ true) ⊎ ((k == n) ≡ false)
    eq_or_not true e = inl e
    eq_or_not false e = inr e

    differs : (k == n) ≡ false → ¬ (k ≡ n)
    differs d e = true≢false (sym (eq-eqb k n e) ∙ d)

    smaller : (k == n) ≡ false → k < n
    smaller d = let n : ¬ (k ≡ n) = differs d in omega arith

pub below_from : (n k : ℕ) → k < n → Member k (numbers_below n)
below_from zero k h = absurd (omega arith)
below_from (suc n) k h =
    elim (below_either n k h) [
      | inl l ↦ Member-left (below_from n k l) (n ∷ [])
      | inr e ↦ Member-right (numbers_below n) (Member-same [] e)
    ]

pub owner_or_none : (k : ℕ) (owners : List ℕ) → Member k owners ⊎ Each (λ owner. (k == owner) ≡ false) owners
owner_or_none k [] = inr no_item
owner_or_none k (j ∷ owners) = one (k == j) refl (owner_or_none k owners)
  where
    one : (b : Bool) → (k == j) ≡ b → Member k owners ⊎ Each (λ owner. (k == owner) ≡ false) owners → Member k (j ∷ owners) ⊎ Each (λ owner. (k == owner) ≡ false) (j ∷ owners)
    one true e h = inl (Member-same owners (eqb-true k j e))
    one false e (inl m) = inl (there m)
    one false e (inr h) = inr (item e h)

pub each_below : {n : ℕ} {owners : List ℕ} → Each (λ k. Member k (numbers_below n)) owners → Each (λ k. k < n) owners
each_below {n} h = Each-weaker (λ k m. below_to n k m) h

module _ {A : Type 0} where
  -- Cuts and splits

  pub joined_says : {Q R : List A → Type 0} (w : List A) → SomeWay (λ c. Q c.0 × R c.1) (cuts w) ↔ Joined Q R w
  joined_says w = (
    λ k. joined_from_ways w k.way k.among k.has.0 k.has.1,
    λ h. let k = ways_from_joined w h in record { way = k.0; among = k.1; has = (k.2, k.3) },
  )

  pub split_says : {Q R : List A → Type 0} (w : List A) → SomeWay (λ s. Q s.0 × R s.1) (splits w) ↔ Split Q R w
  split_says w = (
    λ k. split_from_ways w k.way k.among k.has.0 k.has.1,
    λ h. let k = ways_from_split w h in record { way = k.0; among = k.1; has = (k.2, k.3) },
  )

  -- Pieces

  begun : (a : A) (pieces more : List (List A)) → Member more (begin_or_join a pieces) → joined more ≡ a ∷ joined pieces
  begun a [] more m =
      elim (Member-cases m) [ inl e ↦ ap joined e | inr n ↦ elim n [ ] ]
  begun a (piece ∷ pieces) more m =
      elim (Member-cases m) [
        | inl e ↦ ap joined e
        | inr n ↦ elim (Member-cases n) [ inl e ↦ ap joined e | inr o ↦ elim o [ ] ]
      ]

  pub pieces_join : (w : List A) (pieces : List (List A)) → Member pieces (ways_into_pieces w) → joined pieces ≡ w
  pieces_join [] pieces m = elim (Member-cases m) [ inl e ↦ ap joined e | inr n ↦ elim n [ ] ]
  pieces_join (a ∷ w) pieces m =
      let k = Member-flat_map (begin_or_join a) (ways_into_pieces w) m in
      begun a k.0 pieces k.2 ∙ ap (λ x. a ∷ x) (pieces_join w k.0 k.1)

  begin_alone : (a : A) (pieces : List (List A)) → Member ((a ∷ []) ∷ pieces) (begin_or_join a pieces)
  begin_alone a [] = here
  begin_alone a (piece ∷ pieces) = here

  one_more_piece : (a : A) (u : List A) (pieces : List (List A)) → Member pieces (ways_into_pieces (joined pieces)) → Member ((a ∷ u) ∷ pieces) (ways_into_pieces (a ∷ (u ++ joined pieces)))
  one_more_piece a [] pieces m = flat_map-Member (begin_or_join a) m (begin_alone a pieces)
  one_more_piece a (b ∷ u) pieces m = flat_map-Member (begin_or_join a) (one_more_piece b u pieces m) (there here)

  pieces_among : (pieces : List (List A)) → Each (λ piece. ¬ (piece ≡ [])) pieces → Member pieces (ways_into_pieces (joined pieces))
  pieces_among [] h = here
  pieces_among ([] ∷ pieces) h = absurd (Each-head h refl)
  pieces_among ((a ∷ u) ∷ pieces) h = one_more_piece a u pieces (pieces_among pieces (Each-tail h))

  -- the test of concatenations
  pub concatenation_says : {C : List A → Type 0} (test : List A → Bool) → ((u : List A) → (test u ≡ true) ↔ C u) → (w : List A) → (is_concatenation test w ≡ true) ↔ Repeated C w
  concatenation_says {C} test says w = (
    λ e. let k = (any_says (list_all test) (ways_into_pieces w)).0 e in
        record {
          pieces = k.which;
          whole = sym (pieces_join w k.which k.among);
          each_has = (all_are test says k.which).0 k.passes;
        },
    λ h. let k = Repeated-filled w h in
        (any_says (list_all test) (ways_into_pieces w)).1
        (record {
          which = k.0.pieces;
          among = subst (λ u. Member k.0.pieces (ways_into_pieces u)) (sym k.0.whole) (pieces_among k.0.pieces k.1);
          passes = (all_are test says k.0.pieces).1 k.0.each_has;
        }),
  )

  module _ {K : Type 0} (choices : List K) where
    pub long_to : (w : List A) (owners : List K) → Member owners (lists_as_long choices w) → length owners ≡ length w
    long_to [] owners m = elim (Member-cases m) [ inl e ↦ ap length e | inr n ↦ elim n [ ] ]
    long_to (a ∷ w) owners m =
        let k = Member-flat_map (λ ks. map (λ choice. choice ∷ ks) choices) (lists_as_long choices w) m in
        let j = Member-map (λ choice. choice ∷ k.0) choices k.2 in
        ap length j.2 ∙ ap suc (long_to w k.0 k.1)

    pub long_from : (w : List A) (owners : List K) → length owners ≡ length w → Each (λ k. Member k choices) owners → Member owners (lists_as_long choices w)
    long_from [] [] e h = here
    long_from [] (k ∷ owners) e h = absurd (omega arith)
    long_from (a ∷ w) [] e h = absurd (omega arith)
    long_from (a ∷ w) (k ∷ owners) e h =
        flat_map-Member (λ ks. map (λ choice. choice ∷ ks) choices)
        (long_from w owners (omega arith) (Each-tail h)) (map-Member (λ choice. choice ∷ owners) (Each-head h))

  -- the part of a number
  abbrev pub numbered_part : List ℕ → List A → ℕ → List A
  numbered_part owners w k = part (λ owner. k == owner) owners w

  pub parts_to : {Q : List A → Type 0} (w : List A) (owners : List ℕ) → length owners ≡ length w → Each (λ k. k < length w) owners → Each Q (nonempty_parts owners w) → Each (λ k. Q (numbered_part owners w k)) owners
  parts_to {Q} w owners e b h =
      Each-members owners (λ k m.
      let used : ¬ (numbered_part owners w k ≡ []) = part-used (λ owner. k == owner) owners w k e m (eq-eqb k k refl) in
      Each-member h
      (filter-Member (λ u. not (is_empty u))
      (map-Member (numbered_part owners w) (below_from (length w) k (Each-member b m)))
      ((when_not (is_empty (numbered_part owners w k)) (filled_says (numbered_part owners w k))).1 used)))

  pub parts_from : {Q : List A → Type 0} (w : List A) (owners : List ℕ) → Each (λ k. Q (numbered_part owners w k)) owners → Each Q (nonempty_parts owners w)
  parts_from {Q} w owners h =
      Each-members (nonempty_parts owners w) (λ u m.
      let f = Member-filter (λ x. not (is_empty x)) (map (numbered_part owners w) (numbers_below (length w))) m in
      let k = Member-map (numbered_part owners w) (numbers_below (length w)) f.0 in
      subst Q (sym k.2) (used k.0 (λ none. (when_not (is_empty u) (filled_says u)).0 f.1 (k.2 ∙ none)) (owner_or_none k.0 owners)))
    where
      used : (k : ℕ) → ¬ (numbered_part owners w k ≡ []) → Member k owners ⊎ Each (λ owner. (k == owner) ≡ false) owners → Q (numbered_part owners w k)
      used k n (inl m) = Each-member h m
      used k n (inr none) = absurd (n (part-unused (λ owner. k == owner) owners w none))

  pub numbers_to : {K : Type 0} (choices : List K) (w : List A) (owners : List K) → Member owners (lists_as_long choices w) → Each (λ k. Member k choices) owners
  numbers_to choices [] owners m = elim (Member-cases m) [ inl e ↦ subst (Each (λ k. Member k choices)) (sym e) no_item | inr n ↦ elim n [ ] ]
  numbers_to choices (a ∷ w) owners m =
      let k = Member-flat_map (λ ks. map (λ choice. choice ∷ ks) choices) (lists_as_long choices w) m in
      let j = Member-map (λ choice. choice ∷ k.0) choices k.2 in
      subst (Each (λ c. Member c choices)) (sym j.2) (item j.1 (numbers_to choices w k.0 k.1))

  -- owners whose parts that aren't empty all have Q
  pub numbered_says : {Q : List A → Type 0} (w : List A) → SomeWay (λ owners. Each Q (nonempty_parts owners w)) (numberings w) ↔ Numbered Q w
  numbered_says {Q} w = (
    λ k.
        let long : length k.way ≡ length w = long_to (numbers_below (length w)) w k.way k.among in
        record {
          owners = k.way;
          as_long = long;
          each_has = parts_to w k.way long (each_below (numbers_to (numbers_below (length w)) w k.way k.among)) k.has;
        },
    λ h.
        let k = Numbered-below w h in
        record {
          way = k.0.owners;
          among = long_from (numbers_below (length w)) w k.0.owners k.0.as_long (Each-weaker (λ j b. below_from (length w) j b) k.1);
          has = parts_from w k.0.owners k.0.each_has;
        },
  )

-- Values as owners

pub ownings_to : (w : Word) (owners : List (List ℕ)) → Member owners (ownings w) → EachPair (λ v a. Member v a.values) owners w
ownings_to [] owners m = elim (Member-cases m) [ inl e ↦ subst (λ x. EachPair (λ v (a : PlainAction). Member v a.values) x []) (sym e) no_pair | inr n ↦ elim n [ ] ]
ownings_to (a ∷ w) owners m =
    let k = Member-flat_map (λ vs. map (λ v. v ∷ vs) a.values) (ownings w) m in
    let j = Member-map (λ v. v ∷ k.0) a.values k.2 in
    subst (λ x. EachPair (λ v (b : PlainAction). Member v b.values) x (a ∷ w)) (sym j.2) (pair j.1 (ownings_to w k.0 k.1))

pub ownings_from : {w : Word} {owners : List (List ℕ)} → EachPair (λ v a. Member v a.values) owners w → Member owners (ownings w)
ownings_from no_pair = here
ownings_from (pair {a = a} {owners = owners} m h) = flat_map-Member (λ vs. map (λ v. v ∷ vs) a.values) (ownings_from h) (map-Member (λ v. v ∷ owners) m)
