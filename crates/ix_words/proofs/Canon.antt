-- Canonical lists: ascending, with the members of what they stand for, and one for all lists with the same members.
use Rattle.std.proofs.Common.{◌≡◌, ◌⊎◌, inl, inr, Bool, true, false, List, [], ◌∷◌, ◌++◌, map, flat_map, append_assoc, refl, sym, ap, ◌∙◌, subst, Ordering, Less, Equal, Greater}
use Rattle.std.specs.Cmp.{tied_itself}
use Rattle.std.specs.Ordering.{ordering_reverse}
use Rattle.ix_words.specs.Each.{Each, no_item, item, Member, here, there}
use Rattle.ix_words.specs.Canon.{IsStrictOrder, Ascending, ascending_end, below, SameMembers, by_order, put_once, canon, when}
use Rattle.ix_words.proofs.Each.{Each-head, Each-tail, Each-weaker, Each-member, Each-members, Member-left, Member-right, Member-either}

-- Members

module _ {A : Type 0} where
  pub Member-cases : {a c : A} {w : List A} → Member c (a ∷ w) → (c ≡ a) ⊎ Member c w
  Member-cases here = inl refl
  Member-cases (there m) = inr m

  pub Member-same : {a c : A} (w : List A) → c ≡ a → Member c (a ∷ w)
  Member-same {c = c} w e = subst (λ x. Member c (x ∷ w)) e here

  pub SameMembers-refl : (w : List A) → SameMembers w w
  SameMembers-refl w = record { to = λ a m. m; from = λ a m. m }

  pub SameMembers-sym : {u v : List A} → SameMembers u v → SameMembers v u
  SameMembers-sym s = record { to = s.from; from = s.to }

  pub SameMembers-trans : {u v w : List A} → SameMembers u v → SameMembers v w → SameMembers u w
  SameMembers-trans s t = record { to = λ a m. t.to a (s.to a m); from = λ a m. s.from a (t.from a m) }

  pub SameMembers-eq : {u v : List A} → u ≡ v → SameMembers u v
  SameMembers-eq {u} e = subst (SameMembers u) e (SameMembers-refl u)

  append_to : {u v x y : List A} → SameMembers u x → SameMembers v y → (a : A) → Member a (u ++ v) → Member a (x ++ y)
  append_to {u} {v} {x} {y} s t a m =
      elim (Member-either u v m) [ inl l ↦ Member-left (s.to a l) y | inr r ↦ Member-right x (t.to a r) ]

  pub SameMembers-append : {u v x y : List A} → SameMembers u x → SameMembers v y → SameMembers (u ++ v) (x ++ y)
  SameMembers-append s t =
      record {
        to = append_to s t;
        from = append_to (SameMembers-sym s) (SameMembers-sym t);
      }

  swap_to : (u v : List A) (a : A) → Member a (u ++ v) → Member a (v ++ u)
  swap_to u v a m = elim (Member-either u v m) [ inl l ↦ Member-right v l | inr r ↦ Member-left r u ]

  pub SameMembers-swap : (u v : List A) → SameMembers (u ++ v) (v ++ u)
  SameMembers-swap u v = record { to = swap_to u v; from = swap_to v u }

  double_from : (u : List A) (a : A) → Member a (u ++ u) → Member a u
  double_from u a m = elim (Member-either u u m) [ inl l ↦ l | inr r ↦ r ]

  pub SameMembers-double : (u : List A) → SameMembers (u ++ u) u
  SameMembers-double u = record { to = double_from u; from = λ a m. Member-left m u }

  pub Member-when : {a : A} (b : Bool) (w : List A) → Member a (when b w) → (b ≡ true) × Member a w
  Member-when true w m = (refl, m)
  Member-when false w m = elim m [ ]

  pub when-Member : {a : A} {b : Bool} {w : List A} → b ≡ true → Member a w → Member a (when b w)
  when-Member {a} {b} {w} e m = subst (λ c. Member a (when c w)) (sym e) m

-- Comprehensions

module _ {A B : Type 0} where
  pub Member-flat_map : {b : B} (f : A → List B) (w : List A) → Member b (flat_map f w) → (a : A) × Member a w × Member b (f a)
  Member-flat_map f [] m = elim m [ ]
  Member-flat_map f (a ∷ w) m =
      elim (Member-either (f a) (flat_map f w) m) [
        | inl l ↦ (a, here, l)
        | inr r ↦ let k = Member-flat_map f w r in (k.0, there k.1, k.2)
      ]

  pub flat_map-Member : {a : A} {b : B} {w : List A} (f : A → List B) → Member a w → Member b (f a) → Member b (flat_map f w)
  flat_map-Member f (here {w}) n = Member-left n (flat_map f w)
  flat_map-Member f (there {b = c} m) n = Member-right (f c) (flat_map-Member f m n)

  pub Member-map : {b : B} (f : A → B) (w : List A) → Member b (map f w) → (a : A) × Member a w × (b ≡ f a)
  Member-map f [] m = elim m [ ]
  Member-map f (a ∷ w) m =
      elim (Member-cases m) [
        | inl e ↦ (a, here, e)
        | inr r ↦ let k = Member-map f w r in (k.0, there k.1, k.2)
      ]

  pub map-Member : {a : A} {w : List A} (f : A → B) → Member a w → Member (f a) (map f w)
  map-Member f here = here
  map-Member f (there m) = there (map-Member f m)

  flat_map_to : {u v : List A} (f g : A → List B) → SameMembers u v → ((a : A) → Member a v → SameMembers (f a) (g a)) → (b : B) → Member b (flat_map f u) → Member b (flat_map g v)
  flat_map_to {u} f g s t b m =
      let k = Member-flat_map f u m in
      let there' = s.to k.0 k.1 in
      flat_map-Member g there' ((t k.0 there').to b k.2)

  -- the same members, each with the same results, give the same results
  pub SameMembers-flat_map : {u v : List A} (f g : A → List B) → SameMembers u v → ((a : A) → Member a v → SameMembers (f a) (g a)) → SameMembers (flat_map f u) (flat_map g v)
  SameMembers-flat_map f g s t =
      record {
        to = flat_map_to f g s t;
        from = flat_map_to g f (SameMembers-sym s) (λ a m. SameMembers-sym (t a (s.to a m)));
      }

  pub flat_map-append : (f : A → List B) (u v : List A) → flat_map f (u ++ v) ≡ flat_map f u ++ flat_map f v
  flat_map-append f [] v = refl
  flat_map-append f (a ∷ u) v = ap (λ x. f a ++ x) (flat_map-append f u v) ∙ sym (append_assoc (f a) (flat_map f u) (flat_map f v))

pub flat_map-flat_map : {A B C : Type 0} (f : A → List B) (g : B → List C) (w : List A) → flat_map g (flat_map f w) ≡ flat_map (λ a. flat_map g (f a)) w
flat_map-flat_map f g [] = refl
flat_map-flat_map f g (a ∷ w) =
    flat_map-append g (f a) (flat_map f w) ∙ ap (λ x. flat_map g (f a) ++ x) (flat_map-flat_map f g w)

-- Canonical lists

pub by_order-has : {B : Type 0} (P : B → Type 0) (r : Ordering) (x y z : B) → (r ≡ Less → P x) → (r ≡ Equal → P y) → (r ≡ Greater → P z) → P (by_order r x y z)
by_order-has P Less x y z f g h = f refl
by_order-has P Equal x y z f g h = g refl
by_order-has P Greater x y z f g h = h refl

module _ {A : Type 0} (compare : A → A → Ordering) where
  pub put_once-each : {G : A → Type 0} (a : A) (w : List A) → G a → Each G w → Each G (put_once compare a w)
  put_once-each a [] g h = item g no_item
  put_once-each {G} a (b ∷ w) g h =
      by_order-has (Each G) (compare a b) _ _ _
      (λ e. item g h)
      (λ e. h)
      (λ e. item (Each-head h) (put_once-each a w g (Each-tail h)))

module _ {A : Type 0} {compare : A → A → Ordering} (order : IsStrictOrder compare) where
  pub not_below_itself : (a : A) → ¬ (compare a a ≡ Less)
  not_below_itself a e = let f : compare a a ≡ Equal = tied_itself order.total a in cc

  pub turned : (a b : A) → compare a b ≡ Greater → compare b a ≡ Less
  turned a b e = order.total.antisymm b a ∙ ap ordering_reverse e

  pub not_both_below : (a b : A) → compare a b ≡ Less → ¬ (compare b a ≡ Less)
  not_both_below a b e f = not_below_itself a (order.total.trans a b a e f)

  pub put_once-itself : (a : A) (w : List A) → Member a (put_once compare a w)
  put_once-itself a [] = here
  put_once-itself a (b ∷ w) =
      by_order-has (Member a) (compare a b) _ _ _
      (λ e. here)
      (λ e. Member-same w (order.tells_apart a b e))
      (λ e. there (put_once-itself a w))

  pub put_once-kept : {c : A} (a : A) (w : List A) → Member c w → Member c (put_once compare a w)
  put_once-kept a [] m = there m
  put_once-kept {c} a (b ∷ w) m =
      by_order-has (Member c) (compare a b) _ _ _
      (λ e. there m)
      (λ e. m)
      (λ e. elim (Member-cases m) [ inl f ↦ Member-same _ f | inr r ↦ there (put_once-kept a w r) ])

  pub Member-put_once : {c : A} (a : A) (w : List A) → Member c (put_once compare a w) → (c ≡ a) ⊎ Member c w
  Member-put_once a w m =
      let G : A → Type 0 = λ x. (x ≡ a) ⊎ Member x w in
      Each-member {G = G} (put_once-each compare {G = G} a w (inl refl) (Each-members {G = G} w (λ b n. inr n))) m

  pub put_once-ascending : (a : A) (w : List A) → Ascending compare w → Ascending compare (put_once compare a w)
  put_once-ascending a [] h = below no_item ascending_end
  put_once-ascending a (b ∷ w) (below g h) =
      by_order-has (Ascending compare) (compare a b) _ _ _
      (λ e. below (item e (Each-weaker (λ c f. order.total.trans a b c e f) g)) (below g h))
      (λ e. below g h)
      (λ e. below (put_once-each compare a w (turned a b e) g) (put_once-ascending a w h))

  pub canon-ascending : (w : List A) → Ascending compare (canon compare w)
  canon-ascending [] = ascending_end
  canon-ascending (a ∷ w) = put_once-ascending a (canon compare w) (canon-ascending w)

  canon_to : (w : List A) (c : A) → Member c (canon compare w) → Member c w
  canon_to [] c m = m
  canon_to (a ∷ w) c m =
      elim (Member-put_once a (canon compare w) m) [ inl e ↦ Member-same w e | inr r ↦ there (canon_to w c r) ]

  canon_from : (w : List A) (c : A) → Member c w → Member c (canon compare w)
  canon_from [] c m = m
  canon_from (a ∷ w) c m =
      elim (Member-cases m) [
        | inl e ↦ subst (λ x. Member x (put_once compare a (canon compare w))) (sym e) (put_once-itself a (canon compare w))
        | inr r ↦ put_once-kept a (canon compare w) (canon_from w c r)
      ]

  -- the canonical list has the members of the list
  pub canon-members : (w : List A) → SameMembers (canon compare w) w
  canon-members w = record { to = canon_to w; from = canon_from w }

  first_same : (a b : A) (u v : List A) → Each (λ c. compare a c ≡ Less) u → Each (λ c. compare b c ≡ Less) v → SameMembers (a ∷ u) (b ∷ v) → a ≡ b
  first_same a b u v g h s =
      elim (Member-cases (s.to a here)) [
        | inl e ↦ e
        | inr m ↦ elim (Member-cases (s.from b here)) [
          | inl f ↦ sym f
          | inr n ↦ absurd (not_both_below a b (Each-member g n) (Each-member h m))
        ]
      ]

  rest_to : (a b : A) (u v : List A) → a ≡ b → Each (λ c. compare a c ≡ Less) u → ((c : A) → Member c (a ∷ u) → Member c (b ∷ v)) → (c : A) → Member c u → Member c v
  rest_to a b u v e g t c m =
      elim (Member-cases (t c (there m))) [
        | inl f ↦ absurd (not_below_itself a (subst (λ x. compare a x ≡ Less) (f ∙ sym e) (Each-member g m)))
        | inr n ↦ n
      ]

  -- two ascending lists with the same members are one
  pub ascending_once : {u v : List A} → Ascending compare u → Ascending compare v → SameMembers u v → u ≡ v
  ascending_once ascending_end ascending_end s = refl
  ascending_once ascending_end (below h y) s = elim (s.from _ here) [ ]
  ascending_once (below g x) ascending_end s = elim (s.to _ here) [ ]
  ascending_once (below {a} {w = u} g x) (below {a = b} {w = v} h y) s =
      let e : a ≡ b = first_same a b u v g h s in
      let rest : u ≡ v = ascending_once x y (record { to = rest_to a b u v e g s.to; from = rest_to b a v u (sym e) h s.from }) in
      cc

  pub canon-same : (u v : List A) → SameMembers u v → canon compare u ≡ canon compare v
  canon-same u v s =
      ascending_once (canon-ascending u) (canon-ascending v)
      (SameMembers-trans (canon-members u) (SameMembers-trans s (SameMembers-sym (canon-members v))))

  pub same_from_canon : (u v : List A) → canon compare u ≡ canon compare v → SameMembers u v
  same_from_canon u v e =
      SameMembers-trans (SameMembers-sym (canon-members u)) (SameMembers-trans (SameMembers-eq e) (canon-members v))

  -- an ascending list is its own canonical list
  pub canon-itself : (w : List A) → Ascending compare w → canon compare w ≡ w
  canon-itself w h = ascending_once (canon-ascending w) h (canon-members w)

  pub canon-append : (u v : List A) → canon compare (u ++ v) ≡ canon compare (canon compare u ++ canon compare v)
  canon-append u v =
      canon-same (u ++ v) (canon compare u ++ canon compare v)
      (SameMembers-append (SameMembers-sym (canon-members u)) (SameMembers-sym (canon-members v)))

  -- one more item is put in its place
  pub canon-end : (w : List A) (a : A) → canon compare (w ++ a ∷ []) ≡ put_once compare a (canon compare w)
  canon-end w a = canon-same (w ++ a ∷ []) (a ∷ w) (SameMembers-swap w (a ∷ []))

-- a comprehension over a canonical list has the canonical list of the comprehension
pub canon-flat_map : {A B : Type 0} {compare : A → A → Ordering} {order : B → B → Ordering} → IsStrictOrder compare → IsStrictOrder order → (f : A → List B) (w : List A) → canon order (flat_map f (canon compare w)) ≡ canon order (flat_map f w)
canon-flat_map {compare = compare} o p f w =
    canon-same p (flat_map f (canon compare w)) (flat_map f w)
    (SameMembers-flat_map f f (canon-members o w) (λ a m. SameMembers-refl (f a)))
