-- Words whose items have owner numbers below n: the lists of such numbers, and the parts of the word with one more item,
-- where one part has grown by it, or it makes a part of its own while fewer than n have begun.
use Rattle.std.proofs.Common.{◌≡◌, ◌↔◌, ◌⊎◌, inl, inr, ℕ, zero, suc, ◌<◌, ◌≤◌, ◌==◌, Bool, true, false, cond, List, [], ◌∷◌, ◌++◌, map, filter, length, refl, sym, ap, ap₂, ◌∙◌, subst, arith, length-append, eq-eqb}
use Rattle.std.proofs.lemmas.List.{length-map}
use Rattle.ix_words.specs.Each.{Each, no_item, item, Member}
use Rattle.ix_words.specs.Words.{Shared, Closed}
use Rattle.ix_words.proofs.Words.{Shared-empty}
use Rattle.ix_words.proofs.Each.{Each-head, Each-tail, Each-weaker, Each-member, Each-members, Each-append, Each-left, Each-right}
use Rattle.ix_words.proofs.Parts.{cut}
use Rattle.ix_can.specs.Ways.{numbers_below, sharings, parts_below}
use Rattle.ix_words.proofs.Deciding.{iff_trans}
use Rattle.ix_can.proofs.Lists.{SomeWay, way_says}
use Rattle.ix_can.proofs.Ways.{numbered_part, long_to, long_from, numbers_to, each_below, below_to, below_from}
use Rattle.ix_can.proofs.Bags.{Reordered, unmoved, behind, swapped, and_then, Reordered-sym, Reordered-eq, Each-reordered, Each-taken, Reordered-filter, Reordered-map, Taken, first, later, Taken-reordered, Taken-member, Member-taken, taken_along, taken_kept}
use Rattle.ix_can.proofs.Numberings.{Distinct, distinct_below, filled, parts_over, grown_parts}

-- Counting

pub numbers_count : (n : ℕ) → length (numbers_below n) ≡ n
numbers_count zero = refl
numbers_count (suc n) = omega (arith, length-append (numbers_below n) (n ∷ []), numbers_count n)

module _ {A : Type 0} where
  pub same_length : {u v : List A} → Reordered u v → length u ≡ length v
  same_length unmoved = refl
  same_length (behind r) = ap suc (same_length r)
  same_length swapped = refl
  same_length (and_then r s) = same_length r ∙ same_length s

  taken_length : {a : A} {u v : List A} → Taken a u v → length u ≡ suc (length v)
  taken_length t = same_length (Taken-reordered t)

-- what is made of each has Q
each_map : {K B : Type 0} {Q : B → Type 0} (f : K → B) (ks : List K) → Each Q (map f ks) ↔ Each (λ k. Q (f k)) ks
each_map f [] = (λ h. no_item, λ h. no_item)
each_map f (k ∷ ks) = (
  λ h. item (Each-head h) ((each_map f ks).0 (Each-tail h)),
  λ h. item (Each-head h) ((each_map f ks).1 (Each-tail h)),
)

module _ {A : Type 0} where
  few_filled : (us : List (List A)) → length (filter filled us) ≤ length us
  few_filled [] = omega arith
  few_filled ([] ∷ us) = let h = few_filled us in omega arith
  few_filled ((a ∷ u) ∷ us) = let h = few_filled us in omega arith

  few_parts : (ns owners : List ℕ) (w : List A) → length (parts_over ns owners w) ≤ length ns
  few_parts ns owners w =
      let h = few_filled (map (numbered_part owners w) ns) in
      let l = length-map ns (numbered_part owners w) in
      omega (arith, h, l)

  none_filled : (ns : List ℕ) → parts_over {A = A} ns [] [] ≡ []
  none_filled [] = refl
  none_filled (k ∷ ns) = none_filled ns

  -- no part of the empty word has an item
  pub empty_parts : (n : ℕ) → parts_below {A = A} n [] [] ≡ []
  empty_parts n = none_filled (numbers_below n)

  -- at most n parts below n have an item
  pub parts_count : (n : ℕ) (owners : List ℕ) (w : List A) → length (parts_below n owners w) ≤ n
  parts_count n owners w =
      let h = few_parts (numbers_below n) owners w in
      let l = numbers_count n in
      omega (arith, h, l)

  -- The lists of numbers

  pub sharing_is : (n : ℕ) (w : List A) (owners : List ℕ) → Member owners (sharings n w) → (length owners ≡ length w) × Each (λ k. Member k (numbers_below n)) owners
  sharing_is n w owners m = (long_to (numbers_below n) w owners m, numbers_to (numbers_below n) w owners m)

  pub sharing_among : (n : ℕ) (w : List A) (owners : List ℕ) → length owners ≡ length w → Each (λ k. Member k (numbers_below n)) owners → Member owners (sharings n w)
  sharing_among n w owners l h = long_from (numbers_below n) w owners l h

  -- all words have Q where those that have an item do, and either none is empty or the empty word has Q
  filled_to : {Q : List A → Type 0} (us : List (List A)) → Each Q (filter filled us) → (length (filter filled us) ≡ length us) ⊎ Q [] → Each Q us
  filled_to [] h c = no_item
  filled_to ([] ∷ us) h (inl l) = let few = few_filled us in absurd (omega arith)
  filled_to ([] ∷ us) h (inr q) = item q (filled_to us h (inr q))
  filled_to ((a ∷ u) ∷ us) h (inl l) = item (Each-head h) (filled_to us (Each-tail h) (inl (omega arith)))
  filled_to ((a ∷ u) ∷ us) h (inr q) = item (Each-head h) (filled_to us (Each-tail h) (inr q))

  filled_from : {Q : List A → Type 0} (us : List (List A)) → Each Q us → Each Q (filter filled us) × ((length (filter filled us) ≡ length us) ⊎ Q [])
  filled_from [] h = (no_item, inl refl)
  filled_from ([] ∷ us) h = ((filled_from us (Each-tail h)).0, inr (Each-head h))
  filled_from ((a ∷ u) ∷ us) h =
      let k = filled_from us (Each-tail h) in
      (item (Each-head h) k.0, elim k.1 [ inl l ↦ inl (ap suc l) | inr q ↦ inr q ])

  -- the parts of all numbers below n have Q
  parts_say : {Q : List A → Type 0} (n : ℕ) (owners : List ℕ) (w : List A) → (Each Q (parts_below n owners w) × ((length (parts_below n owners w) ≡ n) ⊎ Q [])) ↔ ((k : ℕ) → k < n → Q (numbered_part owners w k))
  parts_say {Q} n owners w =
      let ns : List ℕ = numbers_below n in
      let us : List (List A) = map (numbered_part owners w) ns in
      let long : length us ≡ n = length-map ns (numbered_part owners w) ∙ numbers_count n in (
        λ h k b.
            Each-member ((each_map (numbered_part owners w) ns).0 (filled_to us h.0 (elim h.1 [ inl l ↦ inl (l ∙ sym long) | inr q ↦ inr q ]))) (below_from n k b),
        λ h.
            let j = filled_from us ((each_map (numbered_part owners w) ns).1 (Each-members ns (λ k m. h k (below_to n k m)))) in
            (j.0, elim j.1 [ inl l ↦ inl (l ∙ long) | inr q ↦ inr q ]),
      )

  -- owners whose parts that aren't empty have Q, as the empty word does where fewer than n have an item
  pub shared_says : {Q : List A → Type 0} (n : ℕ) (w : List A) → SomeWay (λ owners. Each Q (parts_below n owners w) × ((length (parts_below n owners w) ≡ n) ⊎ Q [])) (sharings n w) ↔ Shared n Q w
  shared_says {Q} n w = (
    λ k.
        let h = sharing_is n w k.way k.among in
        record { owners = k.way; as_long = h.0; below = each_below h.1; each_has = (parts_say n k.way w).0 k.has },
    λ h. record {
      way = h.owners;
      among = sharing_among n w h.owners h.as_long (Each-weaker (λ k b. below_from n k b) h.below);
      has = (parts_say n h.owners w).1 h.each_has;
    },
  )

  -- so where the empty word has Q
  pub shared_filled_says : {Q : List A → Type 0} (n : ℕ) (w : List A) → Q [] → SomeWay (λ owners. Each Q (parts_below n owners w)) (sharings n w) ↔ Shared n Q w
  shared_filled_says n w q = iff_trans (way_says (λ owners m. (λ h. (h, inr q), λ h. h.0))) (shared_says n w)

  -- the empty word
  pub shared_empty_says : {Q : List A → Type 0} (n : ℕ) → ((n ≡ 0) ⊎ Q []) ↔ Shared n Q []
  shared_empty_says {Q} n = (
    λ h. elim h [
      | inl z ↦ record { owners = []; as_long = refl; below = no_item; each_has = λ k b. absurd (omega arith) }
      | inr q ↦ Shared-empty q
    ],
    λ h. none_or_first n h.owners h.as_long h.each_has,
  )
    where
      none_or_first : (m : ℕ) (owners : List ℕ) → length owners ≡ 0 → ((k : ℕ) → k < m → Q (numbered_part owners [] k)) → (m ≡ 0) ⊎ Q []
      none_or_first zero owners l h = inl refl
      none_or_first (suc m) [] l h = inr (h 0 (omega arith))
      none_or_first (suc m) (k ∷ owners) l h = absurd (omega arith)

  -- the word of one item
  pub shared_one_says : {Q : List A → Type 0} (n : ℕ) (a : A) → Q [] → ((0 < n) × Q (a ∷ [])) ↔ Shared n Q (a ∷ [])
  shared_one_says {Q} n a q = (
    λ h. record {
      owners = 0 ∷ [];
      as_long = refl;
      below = item h.0 no_item;
      each_has = λ k b. either (k == 0) h.1;
    },
    λ h. of_owner h.owners h.as_long h.below h.each_has,
  )
    where
      either : (b : Bool) → Q (a ∷ []) → Q (cond b (a ∷ []) [])
      either true p = p
      either false p = q

      of_owner : (owners : List ℕ) → length owners ≡ length (a ∷ []) → Each (λ k. k < n) owners → ((k : ℕ) → k < n → Q (numbered_part owners (a ∷ []) k)) → (0 < n) × Q (a ∷ [])
      of_owner [] l b h = absurd (omega arith)
      of_owner (k ∷ []) l b h =
          let below : k < n = Each-head b in
          (omega arith, subst (λ c. Q (cond c (a ∷ []) [])) (eq-eqb k k refl) (h k below))
      of_owner (k ∷ j ∷ owners) l b h = absurd (omega arith)

  -- Pieces of a shared word

  -- the pieces are the parts of these numbers that aren't empty, in some order
  pub record IsShared (ns : List ℕ) (w : List A) (pieces : List (List A)) : Type 0 where
    pub owners : List ℕ
    pub long : length owners ≡ length w
    pub among : Each (λ k. Member k ns) owners
    pub same : Reordered (parts_over ns owners w) pieces

  -- the parts that aren't empty are such pieces
  pub pieces_are : (n : ℕ) (w : List A) (owners : List ℕ) → Member owners (sharings n w) → IsShared (numbers_below n) w (parts_below n owners w)
  pieces_are n w owners m = let h = sharing_is n w owners m in record { owners = owners; long = h.0; among = h.1; same = unmoved }

  shared_along : {ns : List ℕ} {w : List A} {us vs : List (List A)} → Reordered us vs → IsShared ns w us → IsShared ns w vs
  shared_along r h = record { owners = h.owners; long = h.long; among = h.among; same = and_then h.same r }

  -- where the empty word has Q, a word is shared exactly where its pieces have Q
  pub shared_from : {Q : List A → Type 0} (n : ℕ) (w : List A) {us : List (List A)} → Q [] → IsShared (numbers_below n) w us → Each Q us → Shared n Q w
  shared_from n w q h e = (shared_filled_says n w q).0 (record {
    way = h.owners;
    among = sharing_among n w h.owners h.long h.among;
    has = Each-reordered (Reordered-sym h.same) e;
  })

  shared_to : {Q : List A → Type 0} (n : ℕ) (w : List A) → Q [] → Shared n Q w → (us : List (List A)) × IsShared (numbers_below n) w us × Each Q us
  shared_to n w q h =
      let k = (shared_filled_says n w q).1 h in
      (parts_below n k.way w, pieces_are n w k.way k.among, k.has)

  -- one more item for one of the numbers
  more : {ns ms : List ℕ} (owners : List ℕ) (w : List A) (k : ℕ) (a : A) → Distinct ns → length owners ≡ length w → Each (λ j. Member j ns) owners → Taken k ns ms → IsShared ns (w ++ a ∷ []) ((numbered_part owners w k ++ a ∷ []) ∷ parts_over ms owners w)
  more owners w k a d l m t = record {
    owners = owners ++ k ∷ [];
    long = omega (arith, length-append owners (k ∷ []), length-append w (a ∷ []), l);
    among = Each-append m (item (Taken-member t) no_item);
    same = grown_parts owners w k a l t d;
  }

  -- where fewer pieces than numbers have begun, some number has none
  some_empty : (ns owners : List ℕ) (w : List A) → length (parts_over ns owners w) < length ns → (k : ℕ) × (ms : List ℕ) × Taken k ns ms × (numbered_part owners w k ≡ [])
  some_empty [] owners w b = absurd (omega arith)
  some_empty (n ∷ ns) owners w b = chosen (numbered_part owners w n) refl b (some_empty ns owners w)
    where
      chosen : (u : List A) → numbered_part owners w n ≡ u → length (filter filled (u ∷ map (numbered_part owners w) ns)) < suc (length ns) → (length (parts_over ns owners w) < length ns → (k : ℕ) × (ms : List ℕ) × Taken k ns ms × (numbered_part owners w k ≡ [])) → (k : ℕ) × (ms : List ℕ) × Taken k (n ∷ ns) ms × (numbered_part owners w k ≡ [])
      chosen [] e c others = (n, ns, first, e)
      chosen (a ∷ u) e c others = let k = others (omega arith) in (k.0, n ∷ k.1, later k.2, k.3)

  -- the item makes a piece of its own
  pub shared_begun : {ns : List ℕ} (w : List A) (a : A) {us : List (List A)} → Distinct ns → IsShared ns w us → length us < length ns → IsShared ns (w ++ a ∷ []) ((a ∷ []) ∷ us)
  shared_begun {ns} w a {us} d h b =
      let l = same_length h.same in
      let k = some_empty ns h.owners w (omega (arith, l, b)) in
      let others : Reordered (parts_over ns h.owners w) (parts_over k.1 h.owners w) = and_then
      (Reordered-filter filled (Reordered-map (numbered_part h.owners w) (Taken-reordered k.2)))
      (Reordered-eq (ap (λ u. filter filled (u ∷ map (numbered_part h.owners w) k.1)) k.3)) in
      shared_along (and_then
      (Reordered-eq (ap (λ u. (u ++ a ∷ []) ∷ parts_over k.1 h.owners w) k.3))
      (behind (and_then (Reordered-sym others) h.same)))
      (more h.owners w k.0 a d h.long h.among k.2)

  -- one of the pieces has grown by the item
  pub shared_grown : {ns : List ℕ} (w : List A) (a : A) {u : List A} {us vs : List (List A)} → Distinct ns → IsShared ns w us → Taken u us vs → IsShared ns (w ++ a ∷ []) ((u ++ a ∷ []) ∷ vs)
  shared_grown {ns} w a {u} {us} {vs} d h t =
      let j = taken_along (Reordered-sym h.same) t in
      let k = taken_kept (numbered_part h.owners w) filled ns u j.0 j.1 in
      shared_along (and_then
      (Reordered-eq (ap₂ (λ x xs. (x ++ a ∷ []) ∷ xs) (sym k.3) (sym k.4)))
      (behind (Reordered-sym j.2)))
      (more h.owners w k.0 a d h.long h.among k.2)

  -- the pieces of the longer word come from pieces of the word, by one more item
  pub record Began (ns : List ℕ) (w : List A) (a : A) (pieces : List (List A)) : Type 0 where
    pub rest : List (List A)
    pub shared : IsShared ns w rest
    pub room : length rest < length ns
    pub same : Reordered pieces ((a ∷ []) ∷ rest)

  pub record Grew (ns : List ℕ) (w : List A) (a : A) (pieces : List (List A)) : Type 0 where
    pub piece : List A
    pub rest : List (List A)
    pub shared : IsShared ns w (piece ∷ rest)
    pub same : Reordered pieces ((piece ++ a ∷ []) ∷ rest)

  -- the last item was given to this number
  given : {ns ms : List ℕ} (owners : List ℕ) (w : List A) (k : ℕ) (a : A) (us : List (List A)) → Distinct ns → length owners ≡ length w → Each (λ j. Member j ns) owners → Taken k ns ms → Reordered us ((numbered_part owners w k ++ a ∷ []) ∷ parts_over ms owners w) → Began ns w a us ⊎ Grew ns w a us
  given {ns} {ms} owners w k a us d l m t r =
      by_case (numbered_part owners w k) refl
      (record { owners = owners; long = l; among = m; same = Reordered-filter filled (Reordered-map (numbered_part owners w) (Taken-reordered t)) }) r
    where
      by_case : (u : List A) → numbered_part owners w k ≡ u → IsShared ns w (parts_over (k ∷ ms) owners w) → Reordered us ((numbered_part owners w k ++ a ∷ []) ∷ parts_over ms owners w) → Began ns w a us ⊎ Grew ns w a us
      by_case [] e p s = inl (record {
        rest = parts_over ms owners w;
        shared = subst (λ u. IsShared ns w (filter filled (u ∷ map (numbered_part owners w) ms))) e p;
        room = let few = few_parts ms owners w in let one = taken_length t in omega (arith, few, one);
        same = subst (λ u. Reordered us ((u ++ a ∷ []) ∷ parts_over ms owners w)) e s;
      })
      by_case (b ∷ u) e p s = inr (record {
        piece = b ∷ u;
        rest = parts_over ms owners w;
        shared = subst (λ x. IsShared ns w (filter filled (x ∷ map (numbered_part owners w) ms))) e p;
        same = subst (λ x. Reordered us ((x ++ a ∷ []) ∷ parts_over ms owners w)) e s;
      })

  -- the last item of the longer word has begun a piece, or one has grown by it
  pub shared_end : {ns : List ℕ} (w : List A) (a : A) {us : List (List A)} → Distinct ns → IsShared ns (w ++ a ∷ []) us → Began ns w a us ⊎ Grew ns w a us
  shared_end {ns} w a {us} d h =
      let c = cut h.owners w (a ∷ []) h.long in
      last c.first c.second c.whole c.first_long c.second_long
    where
      last : (ks ls : List ℕ) → h.owners ≡ ks ++ ls → length ks ≡ length w → length ls ≡ length (a ∷ []) → Began ns w a us ⊎ Grew ns w a us
      last ks [] e l m = absurd (omega arith)
      last ks (k ∷ []) e l m =
          let all : Each (λ j. Member j ns) (ks ++ k ∷ []) = subst (Each (λ j. Member j ns)) e h.among in
          let t = Member-taken (Each-head (Each-right ks (k ∷ []) all)) in
          let r : Reordered us (parts_over ns (ks ++ k ∷ []) (w ++ a ∷ [])) = and_then (Reordered-sym h.same) (Reordered-eq (ap (λ os. parts_over ns os (w ++ a ∷ [])) e)) in
          given ks w k a us d l (Each-left ks (k ∷ []) all) t.1 (and_then r (grown_parts ks w k a l t.1 d))
      last ks (k ∷ j ∷ ls) e l m = absurd (omega arith)

  -- a shared word goes on by an item where one more piece may begin with it, or some piece goes on by it
  abbrev pub SharedGoes : (Q : List A → Type 0) → ℕ → List A → A → List ℕ → Type 0
  SharedGoes Q n w a owners =
      Each Q (parts_below n owners w)
      × (((length (parts_below n owners w) < n) × Q (a ∷ [])) ⊎ SomeWay (λ u. Q (u ++ a ∷ [])) (parts_below n owners w))

  goes_from : {Q : List A → Type 0} (n : ℕ) (w : List A) (a : A) → Q [] → (us : List (List A)) → IsShared (numbers_below n) w us → Each Q us → ((length us < n) × Q (a ∷ [])) ⊎ SomeWay (λ u. Q (u ++ a ∷ [])) us → Shared n Q (w ++ a ∷ [])
  goes_from n w a q us h e (inl b) =
      let all : length (numbers_below n) ≡ n = numbers_count n in
      let room : length us < n = b.0 in
      shared_from n (w ++ a ∷ []) q (shared_begun w a (distinct_below n) h (omega arith)) (item b.1 e)
  goes_from n w a q us h e (inr k) =
      let t = Member-taken k.among in
      shared_from n (w ++ a ∷ []) q (shared_grown w a (distinct_below n) h t.1) (item k.has (Each-taken t.1 e))

  goes_to : {Q : List A → Type 0} (n : ℕ) (w : List A) (a : A) → Closed Q → (us : List (List A)) → Each Q us → Began (numbers_below n) w a us ⊎ Grew (numbers_below n) w a us → SomeWay (SharedGoes Q n w a) (sharings n w)
  goes_to {Q} n w a c us e (inl b) =
      let h = Each-reordered b.same e in
      let s = b.shared in
      let all : length (numbers_below n) ≡ n = numbers_count n in
      let room : length b.rest < length (numbers_below n) = b.room in
      let count : length (parts_below n s.owners w) ≡ length b.rest = same_length s.same in
      record {
        way = s.owners;
        among = sharing_among n w s.owners s.long s.among;
        has = (Each-reordered (Reordered-sym s.same) (Each-tail h), inl (omega arith, Each-head h));
      }
  goes_to {Q} n w a c us e (inr g) =
      let h = Each-reordered g.same e in
      let s = g.shared in
      let one : Taken g.piece (g.piece ∷ g.rest) g.rest = first in
      let t = taken_along (Reordered-sym s.same) one in
      record {
        way = s.owners;
        among = sharing_among n w s.owners s.long s.among;
        has = (
          Each-reordered (Reordered-sym s.same) (item (c g.piece (a ∷ []) (Each-head h)) (Each-tail h)),
          inr (record { way = g.piece; among = Taken-member t.1; has = Each-head h }),
        );
      }

  pub shared_more_says : {Q : List A → Type 0} → Closed Q → Q [] → (n : ℕ) (w : List A) (a : A) → SomeWay (SharedGoes Q n w a) (sharings n w) ↔ Shared n Q (w ++ a ∷ [])
  shared_more_says c q n w a = (
    λ k. goes_from n w a q (parts_below n k.way w) (pieces_are n w k.way k.among) k.has.0 k.has.1,
    λ h. let k = shared_to n (w ++ a ∷ []) q h in goes_to n w a c k.0 k.2 (shared_end w a (distinct_below n) k.1),
  )
