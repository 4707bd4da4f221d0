-- Entries in pieces: where the entry of a value stands, and what changes with it.
use Rattle.std.proofs.Common.{◌≡◌, ⊎_elim, ℕ, zero, suc, ◌+◌, ◌<◌, ◌≤◌, Bool, true, false, cond, Some, List, [], ◌∷◌, ◌++◌, length, get_or, drop, Ordering, Less, Equal, Greater, refl, sym, ap, ◌∙◌, subst, true≢false, arith}
use Rattle.std.specs.BTreeMap.{is_at, insert_entry}
use Rattle.std.specs.Cmp.{nat_cmp_total, IsTotalOrder}
use Rattle.std.specs.Cmp.Lexicographic.{lists_total}
use Rattle.std.specs.List.{AllByRecursion, AllWithin}
use Rattle.std.specs.List.Sorted.{IsStrictlySortedBy, IsPartitionedBy}
use Rattle.std.specs.Map.{keys_of, lookup, remove_entry}
use Rattle.std.specs.Ordering.{is_le, match_ordering, ordering_reverse}
use Rattle.std.proofs.lemmas.List.{append_assoc, drop_more}
use Rattle.std.proofs.lemmas.Grind.{flat_map-append}
use Rattle.ix_entries.specs.inside.Entries.{KeysAscend, with_entry}
use Rattle.ix_values.specs.Order.{text_cmp}
use Rattle.ix_tree.specs.Plain.{Plain}
use Rattle.ix_tree.specs.PlainOf.{plain_entries}
use Rattle.ix_tree.specs.Size.{size_of}
use Rattle.ix_tree.specs.inside.Pieces.{HasEntries, IsAround, in_pieces, leads}
use Rattle.ix_tree.specs.lemmas.Falls.{size_joined}

abbrev Entry : Type 0
Entry = List ℕ × Plain

text_total : IsTotalOrder text_cmp
text_total = lists_total nat_cmp_total

-- the value comes behind each of these entries, or before each of them
abbrev pub Behind : List ℕ → List Entry → Type 0
Behind v es = AllByRecursion (λ e. text_cmp v e.0 ≡ Greater) es

abbrev pub Before : List ℕ → List Entry → Type 0
Before v es = AllByRecursion (λ e. text_cmp v e.0 ≡ Less) es

-- What changes with one value

module _ (v : List ℕ) where
  lookup_behind : (front es : List Entry) → Behind v front → lookup (is_at (text_cmp v)) (front ++ es) ≡ lookup (is_at (text_cmp v)) es
  lookup_behind [] es h = refl
  lookup_behind (e ∷ front) es h = rw h.0 (lookup_behind front es h.1)

  lookup_before : (es back : List Entry) → Before v back → lookup (is_at (text_cmp v)) (es ++ back) ≡ lookup (is_at (text_cmp v)) es
  lookup_before [] [] h = refl
  lookup_before [] (b ∷ back) h = rw h.0 (lookup_before [] back h.1)
  lookup_before (e ∷ es) back h = ap (cond (is_at (text_cmp v) e.0) (Some e.1)) (lookup_before es back h)

  -- the state of a value stands in the piece that it can stand in
  pub lookup_beside : (front es back : List Entry) → Behind v front → Before v back → lookup (is_at (text_cmp v)) (front ++ (es ++ back)) ≡ lookup (is_at (text_cmp v)) es
  lookup_beside front es back f b = lookup_behind front (es ++ back) f ∙ lookup_before es back b

  insert_behind : (front es : List Entry) (x : Plain) → Behind v front → insert_entry text_cmp (front ++ es) v x ≡ front ++ insert_entry text_cmp es v x
  insert_behind [] es x h = refl
  insert_behind (e ∷ front) es x h = rw h.0 (ap (λ l. e ∷ l) (insert_behind front es x h.1))

  insert_before : (es back : List Entry) (x : Plain) → Before v back → insert_entry text_cmp (es ++ back) v x ≡ insert_entry text_cmp es v x ++ back
  insert_before [] [] x h = refl
  insert_before [] (b ∷ back) x h = rw h.0 refl
  insert_before (e ∷ es) back x h = placed (text_cmp v e.0) (insert_before es back x h)
    where
      placed : (o : Ordering) → insert_entry text_cmp (es ++ back) v x ≡ insert_entry text_cmp es v x ++ back →
          match_ordering o ((v, x) ∷ e ∷ (es ++ back)) ((e.0, x) ∷ (es ++ back)) (e ∷ insert_entry text_cmp (es ++ back) v x)
          ≡ match_ordering o ((v, x) ∷ e ∷ es) ((e.0, x) ∷ es) (e ∷ insert_entry text_cmp es v x) ++ back
      placed Less rest = refl
      placed Equal rest = refl
      placed Greater rest = ap (λ l. e ∷ l) rest

  remove_behind : (front es : List Entry) → Behind v front → remove_entry (is_at (text_cmp v)) (front ++ es) ≡ front ++ remove_entry (is_at (text_cmp v)) es
  remove_behind [] es h = refl
  remove_behind (e ∷ front) es h = rw h.0 (ap (λ l. e ∷ l) (remove_behind front es h.1))

  remove_before : (es back : List Entry) → Before v back → remove_entry (is_at (text_cmp v)) (es ++ back) ≡ remove_entry (is_at (text_cmp v)) es ++ back
  remove_before [] [] h = refl
  remove_before [] (b ∷ back) h = rw h.0 (ap (λ l. b ∷ l) (remove_before [] back h.1))
  remove_before (e ∷ es) back h = chosen (is_at (text_cmp v) e.0) (remove_before es back h)
    where
      chosen : (b : Bool) → remove_entry (is_at (text_cmp v)) (es ++ back) ≡ remove_entry (is_at (text_cmp v)) es ++ back →
          cond b (es ++ back) (e ∷ remove_entry (is_at (text_cmp v)) (es ++ back)) ≡ cond b es (e ∷ remove_entry (is_at (text_cmp v)) es) ++ back
      chosen true rest = refl
      chosen false rest = ap (λ l. e ∷ l) rest

  -- a state put at a value changes the piece that the value stands in, and no other
  pub with_beside : (eq : Plain → Plain → Bool) (common x : Plain) (front es back : List Entry) → Behind v front → Before v back → with_entry text_cmp eq common (front ++ (es ++ back)) v x ≡ front ++ (with_entry text_cmp eq common es v x ++ back)
  with_beside eq common x front es back f b = chosen (eq x common)
    where
      chosen : (same : Bool) →
          cond same (remove_entry (is_at (text_cmp v)) (front ++ (es ++ back))) (insert_entry text_cmp (front ++ (es ++ back)) v x)
          ≡ front ++ (cond same (remove_entry (is_at (text_cmp v)) es) (insert_entry text_cmp es v x) ++ back)
      chosen true = remove_behind front (es ++ back) f ∙ ap (λ l. front ++ l) (remove_before es back b)
      chosen false = insert_behind front (es ++ back) x f ∙ ap (λ l. front ++ l) (insert_before es back x b)

-- Lists that ascend

all_left : (P : List ℕ → Type 0) (xs ys : List Entry) → AllByRecursion P (keys_of (xs ++ ys)) → AllByRecursion P (keys_of xs)
all_left P [] ys h = tt
all_left P (x ∷ xs) ys h = (h.0, all_left P xs ys h.1)

all_right : (P : List ℕ → Type 0) (xs ys : List Entry) → AllByRecursion P (keys_of (xs ++ ys)) → AllByRecursion P (keys_of ys)
all_right P [] ys h = h
all_right P (x ∷ xs) ys h = all_right P xs ys h.1

pub ascend_left : (xs ys : List Entry) → KeysAscend text_cmp (xs ++ ys) → KeysAscend text_cmp xs
unfolding IsStrictlySortedBy
ascend_left [] ys h = tt
ascend_left (x ∷ xs) ys h = (all_left _ xs ys h.0, ascend_left xs ys h.1)

pub ascend_right : (xs ys : List Entry) → KeysAscend text_cmp (xs ++ ys) → KeysAscend text_cmp ys
unfolding IsStrictlySortedBy
ascend_right [] ys h = h
ascend_right (x ∷ xs) ys h = ascend_right xs ys h.1

-- an order told the other way round
turned : (x y : List ℕ) (r : Ordering) → text_cmp x y ≡ r → text_cmp y x ≡ ordering_reverse r
turned x y r e = text_total.antisymm y x ∙ ap ordering_reverse e

-- what is below something that is at most v is below v
below_led : (x y v : List ℕ) (o : Ordering) → text_cmp y v ≡ o → is_le o ≡ true → text_cmp x y ≡ Less → text_cmp v x ≡ Greater
below_led x y v Less e h lt = turned x v Less (text_total.trans x y v lt e)
below_led x y v Equal e h lt =
    -- v and y compare alike with x
    sym (text_total.congr y v x e) ∙ turned x y Less lt
below_led x y v Greater e h lt = absurd (true≢false (sym h))

-- the entries before one whose value is at most v stand before v
led : (v : List ℕ) (xs : List Entry) (e : Entry) (ys : List Entry) → KeysAscend text_cmp (xs ++ e ∷ ys) → is_le (text_cmp e.0 v) ≡ true → Behind v xs
unfolding IsStrictlySortedBy
led v [] e ys h le = tt
led v (x ∷ xs) e ys h le =
    let less : AllByRecursion (λ k. text_cmp x.0 k ≡ Less) (keys_of (e ∷ ys)) = all_right (λ k. text_cmp x.0 k ≡ Less) xs (e ∷ ys) h.0 in
    (below_led x.0 e.0 v (text_cmp e.0 v) refl le less.0, led v xs e ys h.1 le)

-- what isn't at most v is above v
not_led : (o : Ordering) → is_le o ≡ false → o ≡ Greater
not_led Less h = absurd (true≢false h)
not_led Equal h = absurd (true≢false h)
not_led Greater h = refl

-- v stands before all entries of a list that ascends and whose first value isn't at most v
further : (v : List ℕ) (e : Entry) (es : List Entry) → text_cmp v e.0 ≡ Less → AllByRecursion (λ k. text_cmp e.0 k ≡ Less) (keys_of es) → Before v es
further v e [] lt h = tt
further v e (x ∷ es) lt h = (text_total.trans v e.0 x.0 lt h.0, further v e es lt h.1)

both : (v : List ℕ) (es fs : List Entry) → Before v es → Before v fs → Before v (es ++ fs)
both v [] fs h k = k
both v (e ∷ es) fs h k = (h.0, both v es fs h.1 k)

-- the entries of pieces none of which is led by a value at most v
pub beyond : (v : List ℕ) (pieces : List (List Entry)) → AllByRecursion HasEntries pieces → KeysAscend text_cmp (in_pieces pieces) → AllByRecursion (λ piece. leads v piece ≡ false) pieces → Before v (in_pieces pieces)
unfolding IsStrictlySortedBy
beyond v [] some h none = tt
beyond v ([] ∷ pieces) some h none = absurd (omega (arith, some.0))
beyond v ((e ∷ es) ∷ pieces) some h none =
    let lt : text_cmp v e.0 ≡ Less = turned e.0 v Greater (not_led (text_cmp e.0 v) none.0) in
    (lt, both v es (in_pieces pieces) (further v e es lt (all_left (λ k. text_cmp e.0 k ≡ Less) es (in_pieces pieces) h.0)) (beyond v pieces some.1 (ascend_right es (in_pieces pieces) h.1) none.1))

-- Where pieces are cut

-- the first value of each piece is among those of all
head_has : (P : List ℕ → Type 0) (d : List Entry) (pieces : List (List Entry)) (k : ℕ) → AllByRecursion HasEntries pieces → AllByRecursion P (keys_of (in_pieces pieces)) → k < length pieces → (e : Entry) × (es : List Entry) × (get_or pieces k d ≡ e ∷ es) × P e.0
head_has P d [] k some h lt = absurd (omega (arith, lt))
head_has P d ([] ∷ pieces) k some h lt = absurd (omega (arith, some.0))
head_has P d ((e ∷ es) ∷ pieces) zero some h lt = (e, es, refl, h.0)
head_has P d ((e ∷ es) ∷ pieces) (suc k) some h lt = head_has P d pieces k some.1 (all_right P es (in_pieces pieces) h.1) (omega (arith, lt))

-- a piece that is led by a smaller value than one at most v is led by one at most v
leads_too : (v x y : List ℕ) (o : Ordering) → text_cmp y v ≡ o → is_le o ≡ true → text_cmp x y ≡ Less → is_le (text_cmp x v) ≡ true
leads_too v x y Less e h lt = ap is_le (text_total.trans x y v lt e)
leads_too v x y Equal e h lt = ap is_le (turned v x Greater (sym (text_total.congr y v x e) ∙ turned x y Less lt))
leads_too v x y Greater e h lt = absurd (true≢false (sym h))

-- pieces of entries that ascend are parted by each value
pub parted : (v : List ℕ) (pieces : List (List Entry)) → AllByRecursion HasEntries pieces → KeysAscend text_cmp (in_pieces pieces) → IsPartitionedBy (leads v) pieces
unfolding IsStrictlySortedBy
parted v [] some h i j d le lt = absurd (omega (arith, lt))
parted v ([] ∷ pieces) some h i j d le lt = absurd (omega (arith, some.0))
parted v ((e ∷ es) ∷ pieces) some h zero zero d le lt = λ led. led
parted v ((e ∷ es) ∷ pieces) some h zero (suc j) d le lt = λ at.
    let first = head_has (λ k. text_cmp e.0 k ≡ Less) d pieces j some.1 (all_right (λ k. text_cmp e.0 k ≡ Less) es (in_pieces pieces) h.0) (omega (arith, lt)) in
    leads_too v e.0 first.0.0 (text_cmp first.0.0 v) refl (sym (ap (leads v) first.2) ∙ at) first.3
parted v ((e ∷ es) ∷ pieces) some h (suc i) zero d le lt = absurd (omega (arith, le))
parted v ((e ∷ es) ∷ pieces) some h (suc i) (suc j) d le lt = parted v pieces some.1 (ascend_right es (in_pieces pieces) h.1) i j d (omega (arith, le)) (omega (arith, lt))

-- what holds of all places from one on holds of all behind it
pub within_drop : {X : Type 0} (P : X → Type 0) (xs : List X) (i : ℕ) → AllWithin P xs i (length xs) → AllByRecursion P (drop i xs)
within_drop P [] zero h = tt
within_drop P [] (suc i) h = tt
within_drop P (x ∷ xs) zero h = (h 0 x (omega arith) (omega arith), within_drop P xs zero (λ k d a b. h (suc k) d (omega (arith, a)) (omega (arith, b))))
within_drop P (x ∷ xs) (suc i) h = within_drop P xs i (λ k d a b. h (suc k) d (omega (arith, a)) (omega (arith, b)))

-- The piece of a value among all entries

-- all entries, cut into those before what the value stands in, this, and those behind it
pub record Parts (v : List ℕ) (whole front es back : List Entry) : Type 0 where
  pub joined : front ++ (es ++ back) ≡ whole
  pub behind : Behind v front
  pub before : Before v back
  pub ascending : KeysAscend text_cmp es

pub some_before : (before : List (List Entry)) (piece : List Entry) (behind : List (List Entry)) → AllByRecursion HasEntries (before ++ piece ∷ behind) → AllByRecursion HasEntries before
some_before [] piece behind h = tt
some_before (p ∷ before) piece behind h = (h.0, some_before before piece behind h.1)

pub some_both : (ps qs : List (List Entry)) → AllByRecursion HasEntries ps → AllByRecursion HasEntries qs → AllByRecursion HasEntries (ps ++ qs)
some_both [] qs h k = k
some_both (p ∷ ps) qs h k = (h.0, some_both ps qs h.1 k)

pub some_behind : (before : List (List Entry)) (piece : List Entry) (behind : List (List Entry)) → AllByRecursion HasEntries (before ++ piece ∷ behind) → AllByRecursion HasEntries behind
some_behind [] piece behind h = h.1
some_behind (p ∷ before) piece behind h = some_behind before piece behind h.1

-- a piece that is led by a value at most v has entries, and what is before it is below v
led_piece : (v : List ℕ) (front piece back : List Entry) → KeysAscend text_cmp (front ++ (piece ++ back)) → leads v piece ≡ true → Behind v front
led_piece v front [] back h le = absurd (true≢false (sym le))
led_piece v front (e ∷ es) back h le = led v front e (es ++ back) h le

-- where the value stands in a piece
pub parts_around : (v : List ℕ) (pieces before : List (List Entry)) (piece : List Entry) (behind : List (List Entry)) → KeysAscend text_cmp (in_pieces pieces) → AllByRecursion HasEntries pieces → IsAround v pieces before piece behind → Parts v (in_pieces pieces) (in_pieces before) piece (in_pieces behind)
parts_around v pieces before piece behind h some around =
    let size_joined : in_pieces before ++ (piece ++ in_pieces behind) ≡ in_pieces pieces =
    sym (flat_map-append (λ p. p) before (piece ∷ behind)) ∙ ap in_pieces (sym around.parts) in
    let up : KeysAscend text_cmp (in_pieces before ++ (piece ++ in_pieces behind)) = subst (KeysAscend text_cmp) (sym size_joined) h in
    let rest : KeysAscend text_cmp (piece ++ in_pieces behind) = ascend_right (in_pieces before) (piece ++ in_pieces behind) up in
    record {
      joined = size_joined;
      behind = ⊎_elim (led_piece v (in_pieces before) piece (in_pieces behind) up) (λ none. subst (λ ps. Behind v (in_pieces ps)) (sym none) tt) around.here;
      before = beyond v behind (some_behind before piece behind (subst (AllByRecursion HasEntries) around.parts some)) (ascend_right piece (in_pieces behind) rest) around.further;
      ascending = ascend_left piece (in_pieces behind) rest;
    }

pub lookup_parts : (v : List ℕ) (whole front es back : List Entry) → Parts v whole front es back → lookup (is_at (text_cmp v)) whole ≡ lookup (is_at (text_cmp v)) es
lookup_parts v whole front es back p = ap (lookup (is_at (text_cmp v))) (sym p.joined) ∙ lookup_beside v front es back p.behind p.before

pub with_parts : (v : List ℕ) (whole front es back : List Entry) → Parts v whole front es back → (eq : Plain → Plain → Bool) (common x : Plain) → with_entry text_cmp eq common whole v x ≡ front ++ (with_entry text_cmp eq common es v x ++ back)
with_parts v whole front es back p eq common x = ap (λ l. with_entry text_cmp eq common l v x) (sym p.joined) ∙ with_beside v eq common x front es back p.behind p.before

-- Sizes

-- each entry counts 1 at least
pub size_counts : (es : List Entry) → length es ≤ size_of (plain_entries es)
size_counts [] = omega arith
size_counts (e ∷ es) = omega (arith, size_counts es)

-- what the pieces from one on are together is that piece and those behind it
pub size_drop : (pieces : List (List Entry)) (k : ℕ) (d : List Entry) → k < length pieces → size_of (plain_entries (in_pieces (drop k pieces))) ≡ size_of (plain_entries (get_or pieces k d)) + size_of (plain_entries (in_pieces (drop (k + 1) pieces)))
size_drop pieces k d lt = ap (λ l. size_of (plain_entries (in_pieces l))) (drop_more pieces k d lt) ∙ size_joined (get_or pieces k d) (in_pieces (drop (k + 1) pieces))

-- pieces put together again, with other entries in place of one of them
pub pieces_again : (made : List Entry) (before behind put all : List (List Entry)) → in_pieces put ≡ in_pieces before ++ made → all ≡ put ++ behind → in_pieces all ≡ in_pieces before ++ (made ++ in_pieces behind)
pieces_again made before behind put all e f =
    ap in_pieces f ∙ flat_map-append (λ p. p) put behind ∙ ap (λ l. l ++ in_pieces behind) e ∙ append_assoc (in_pieces before) made (in_pieces behind)
