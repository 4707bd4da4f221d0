-- Lists with the same items in another order, one item taken out of a list, and bags of trees in order.
use Rattle.std.proofs.Common.{◌≡◌, inl, inr, Bool, true, false, cond, List, [], ◌∷◌, ◌++◌, map, filter, refl, sym, ap, ◌∙◌, subst, true≢false, Ordering, Less, Equal, Greater, if◌then◌else◌}
use Rattle.std.specs.Cmp.{upto}
use Rattle.std.specs.Ordering.{is_gt, ordering_reverse}
use Rattle.ix_words.specs.Each.{Each, item, Member, here, there}
use Rattle.ix_words.proofs.Each.{Each-head, Each-tail}
use Rattle.ix_words.proofs.Canon.{Member-cases, Member-map, map-Member}
use Rattle.ix_tree.specs.Plain.{Plain}
use Rattle.ix_tree.specs.Order.{tree_cmp}
use Rattle.ix_tree.specs.lemmas.TreeOrder.{tree_order, tree_cmp-same}
use Rattle.ix_can.specs.Nodes.{put_in, sorted}
use Rattle.ix_can.specs.Laws.{IsRising}
use Rattle.ix_can.specs.inside.Moved.{picks}

-- Another order

-- the same items, each as often
pub data Reordered {A : Type 0} : List A → List A → Type 0 where
  unmoved : {u : List A} → Reordered u u
  behind : {a : A} {u v : List A} → Reordered u v → Reordered (a ∷ u) (a ∷ v)
  swapped : {a b : A} {u : List A} → Reordered (a ∷ b ∷ u) (b ∷ a ∷ u)
  and_then : {u v w : List A} → Reordered u v → Reordered v w → Reordered u w

-- the second list is the first without one a
pub data Taken {A : Type 0} (a : A) : List A → List A → Type 0 where
  first : {u : List A} → Taken a (a ∷ u) u
  later : {b : A} {u v : List A} → Taken a u v → Taken a (b ∷ u) (b ∷ v)

module _ {A : Type 0} where
  pub Reordered-sym : {u v : List A} → Reordered u v → Reordered v u
  Reordered-sym unmoved = unmoved
  Reordered-sym (behind r) = behind (Reordered-sym r)
  Reordered-sym swapped = swapped
  Reordered-sym (and_then r s) = and_then (Reordered-sym s) (Reordered-sym r)

  pub Reordered-eq : {u v : List A} → u ≡ v → Reordered u v
  Reordered-eq {u} e = subst (Reordered u) e unmoved

  pub Each-reordered : {G : A → Type 0} {u v : List A} → Reordered u v → Each G u → Each G v
  Each-reordered unmoved h = h
  Each-reordered (behind r) h = item (Each-head h) (Each-reordered r (Each-tail h))
  Each-reordered swapped h = item (Each-head (Each-tail h)) (item (Each-head h) (Each-tail (Each-tail h)))
  Each-reordered (and_then r s) h = Each-reordered s (Each-reordered r h)

  filter_behind : (b : Bool) (a : A) {u v : List A} → Reordered u v → Reordered (cond b (a ∷ u) u) (cond b (a ∷ v) v)
  filter_behind true a r = behind r
  filter_behind false a r = r

  filter_swapped : (b c : Bool) (a d : A) (u : List A) → Reordered (cond b (a ∷ cond c (d ∷ u) u) (cond c (d ∷ u) u)) (cond c (d ∷ cond b (a ∷ u) u) (cond b (a ∷ u) u))
  filter_swapped true true a d u = swapped
  filter_swapped true false a d u = unmoved
  filter_swapped false true a d u = unmoved
  filter_swapped false false a d u = unmoved

  pub Reordered-filter : (test : A → Bool) {u v : List A} → Reordered u v → Reordered (filter test u) (filter test v)
  Reordered-filter test unmoved = unmoved
  Reordered-filter test (behind {a} r) = filter_behind (test a) a (Reordered-filter test r)
  Reordered-filter test (swapped {a} {b} {u}) = filter_swapped (test a) (test b) a b (filter test u)
  Reordered-filter test (and_then r s) = and_then (Reordered-filter test r) (Reordered-filter test s)

  -- One item taken out

  pub Taken-reordered : {a : A} {u v : List A} → Taken a u v → Reordered u (a ∷ v)
  Taken-reordered first = unmoved
  Taken-reordered (later t) = and_then (behind (Taken-reordered t)) swapped

  pub Taken-member : {a : A} {u v : List A} → Taken a u v → Member a u
  Taken-member first = here
  Taken-member (later t) = there (Taken-member t)

  pub Member-taken : {a : A} {u : List A} → Member a u → (v : List A) × Taken a u v
  Member-taken here = (_, first)
  Member-taken (there {b} m) = let k = Member-taken m in (b ∷ k.0, later k.1)

  pub Each-taken : {G : A → Type 0} {a : A} {u v : List A} → Taken a u v → Each G u → Each G v
  Each-taken first h = Each-tail h
  Each-taken (later t) h = item (Each-head h) (Each-taken t (Each-tail h))

  -- what is taken out of a list is taken out of it in another order
  pub taken_along : {a : A} {u v w : List A} → Reordered u v → Taken a u w → (x : List A) × Taken a v x × Reordered w x
  taken_along unmoved t = (_, t, unmoved)
  taken_along (behind r) first = (_, first, r)
  taken_along (behind {a} r) (later t) = let k = taken_along r t in (a ∷ k.0, later k.1, behind k.2)
  taken_along swapped first = (_, later first, unmoved)
  taken_along swapped (later first) = (_, first, unmoved)
  taken_along swapped (later (later t)) = (_, later (later t), swapped)
  taken_along (and_then r s) t =
      let k = taken_along r t in
      let j = taken_along s k.1 in
      (j.0, j.1, and_then k.2 j.2)

  pub taken_front : {a : A} {u v : List A} (w : List A) → Taken a u v → Taken a (u ++ w) (v ++ w)
  taken_front w first = first
  taken_front w (later t) = later (taken_front w t)

  pub taken_end : (u : List A) (a : A) → Taken a (u ++ a ∷ []) u
  taken_end [] a = first
  taken_end (b ∷ u) a = later (taken_end u a)

  pub picks_taken : (u : List A) (p : A × List A) → Member p (picks u) → Taken p.0 u p.1
  picks_taken [] p m = elim m [ ]
  picks_taken (a ∷ u) p m =
      elim (Member-cases m) [
        | inl e ↦ subst (λ (q : A × List A). Taken q.0 (a ∷ u) q.1) (sym e) first
        | inr n ↦
            let k = Member-map (λ (q : A × List A). (q.0, a ∷ q.1)) (picks u) n in
            subst (λ (q : A × List A). Taken q.0 (a ∷ u) q.1) (sym k.2) (later (picks_taken u k.0 k.1))
      ]

module _ {A B : Type 0} (f : A → B) where
  pub Reordered-map : {u v : List A} → Reordered u v → Reordered (map f u) (map f v)
  Reordered-map unmoved = unmoved
  Reordered-map (behind r) = behind (Reordered-map r)
  Reordered-map swapped = swapped
  Reordered-map (and_then r s) = and_then (Reordered-map r) (Reordered-map s)

  -- what is taken out of a list is taken out of its image, and the other way round
  pub map_taken : {a : A} {u w : List A} → Taken a u w → Taken (f a) (map f u) (map f w)
  map_taken first = first
  map_taken (later t) = later (map_taken t)

  pub taken_map : (u : List A) (b : B) (v : List B) → Taken b (map f u) v → (a : A) × (w : List A) × Taken a u w × (b ≡ f a) × (v ≡ map f w)
  taken_map [] b v t = elim t [ ]
  taken_map (a ∷ u) b v first = (a, u, first, refl, refl)
  taken_map (a ∷ u) b v (later {v = w} t) = let k = taken_map u b w t in (k.0, a ∷ k.1, later k.2, k.3, ap (λ x. f a ∷ x) k.4)

  -- what is taken out of what a test keeps of a mapped list
  abbrev pub TakenKept : (B → Bool) → List A → B → List B → Type 0
  TakenKept test u b v = (a : A) × (w : List A) × Taken a u w × (b ≡ f a) × (v ≡ filter test (map f w))

  kept_rest : (test : B → Bool) (a : A) (w : List A) (c : Bool) → test (f a) ≡ c → cond c (f a ∷ filter test (map f w)) (filter test (map f w)) ≡ filter test (map f (a ∷ w))
  kept_rest test a w c e = ap (λ x. cond x (f a ∷ filter test (map f w)) (filter test (map f w))) (sym e)

  kept_taken : (test : B → Bool) (a : A) (u : List A) → test (f a) ≡ true → ((b : B) (v : List B) → Taken b (filter test (map f u)) v → TakenKept test u b v) → (b : B) (v : List B) → Taken b (f a ∷ filter test (map f u)) v → TakenKept test (a ∷ u) b v
  kept_taken test a u e before b v first = (a, u, first, refl, refl)
  kept_taken test a u e before b v (later {v = w} t) =
      let k = before b w t in
      (k.0, a ∷ k.1, later k.2, k.3, ap (λ x. f a ∷ x) k.4 ∙ kept_rest test a k.1 true e)

  pub taken_kept : (test : B → Bool) (u : List A) (b : B) (v : List B) → Taken b (filter test (map f u)) v → TakenKept test u b v
  taken_kept test [] b v t = elim t [ ]
  taken_kept test (a ∷ u) b v t = chosen (test (f a)) refl (taken_kept test u) t
    where
      chosen : (c : Bool) → test (f a) ≡ c → ((b : B) (v : List B) → Taken b (filter test (map f u)) v → TakenKept test u b v) → Taken b (cond c (f a ∷ filter test (map f u)) (filter test (map f u))) v → TakenKept test (a ∷ u) b v
      chosen true e before s = kept_taken test a u e before b v s
      chosen false e before s = let k = before b v s in (k.0, a ∷ k.1, later k.2, k.3, k.4 ∙ kept_rest test a k.1 false e)

-- Bags in order

put_above : (x z : Plain) (zs : List Plain) → is_gt (tree_cmp x z) ≡ true → put_in x (z ∷ zs) ≡ z ∷ put_in x zs
put_above x z zs e = ap (λ b. if b then z ∷ put_in x zs else x ∷ z ∷ zs) e

put_below : (x z : Plain) (zs : List Plain) → is_gt (tree_cmp x z) ≡ false → put_in x (z ∷ zs) ≡ x ∷ z ∷ zs
put_below x z zs e = ap (λ b. if b then z ∷ put_in x zs else x ∷ z ∷ zs) e

two_in_order : (x y : Plain) (zs : List Plain) → (if is_gt (tree_cmp x y) then y ∷ x ∷ zs else x ∷ y ∷ zs) ≡ (if is_gt (tree_cmp y x) then x ∷ y ∷ zs else y ∷ x ∷ zs)
two_in_order x y zs = by_case (tree_cmp x y) refl ∙ ap (λ o. if is_gt o then x ∷ y ∷ zs else y ∷ x ∷ zs) (sym (tree_order.total.antisymm y x))
  where
    by_case : (o : Ordering) → tree_cmp x y ≡ o → (if is_gt o then y ∷ x ∷ zs else x ∷ y ∷ zs) ≡ (if is_gt (ordering_reverse o) then x ∷ y ∷ zs else y ∷ x ∷ zs)
    by_case Less e = refl
    by_case Greater e = refl
    by_case Equal e = let same : x ≡ y = tree_cmp-same x y e in cc

not_passed : (x y z : Plain) → is_gt (tree_cmp x z) ≡ true → is_gt (tree_cmp y z) ≡ false → is_gt (tree_cmp x y) ≡ true
not_passed x y z e f = by_case (is_gt (tree_cmp x y)) refl
  where
    by_case : (b : Bool) → is_gt (tree_cmp x y) ≡ b → b ≡ true
    by_case true g = refl
    by_case false g = absurd (true≢false (sym e ∙ upto tree_order.total x y z g f))

-- of two trees either is put in first
put_swap : (x y : Plain) (zs : List Plain) → put_in x (put_in y zs) ≡ put_in y (put_in x zs)
put_swap x y [] = two_in_order x y []
put_swap x y (z ∷ zs) = by_case (is_gt (tree_cmp x z)) (is_gt (tree_cmp y z)) refl refl (put_swap x y zs)
  where
    by_case : (b c : Bool) → is_gt (tree_cmp x z) ≡ b → is_gt (tree_cmp y z) ≡ c → put_in x (put_in y zs) ≡ put_in y (put_in x zs) → put_in x (if c then z ∷ put_in y zs else y ∷ z ∷ zs) ≡ put_in y (if b then z ∷ put_in x zs else x ∷ z ∷ zs)
    by_case true true e f g = put_above x z (put_in y zs) e ∙ ap (λ u. z ∷ u) g ∙ sym (put_above y z (put_in x zs) f)
    by_case true false e f g =
        put_above x y (z ∷ zs) (not_passed x y z e f) ∙ ap (λ u. y ∷ u) (put_above x z zs e) ∙ sym (put_below y z (put_in x zs) f)
    by_case false true e f g =
        put_below x z (put_in y zs) e ∙ sym (put_above y x (z ∷ zs) (not_passed y x z f e) ∙ ap (λ u. x ∷ u) (put_above y z zs f))
    by_case false false e f g =
        ap (λ u. if is_gt (tree_cmp x y) then y ∷ u else x ∷ y ∷ z ∷ zs) (put_below x z zs e)
        ∙ two_in_order x y (z ∷ zs)
        ∙ ap (λ u. if is_gt (tree_cmp y x) then x ∷ u else y ∷ x ∷ z ∷ zs) (sym (put_below y z zs f))

-- the order of the trees doesn't matter to the bag
pub sorted_same : {u v : List Plain} → Reordered u v → sorted u ≡ sorted v
sorted_same unmoved = refl
sorted_same (behind {a} r) = ap (put_in a) (sorted_same r)
sorted_same (swapped {a} {b} {u}) = put_swap a b (sorted u)
sorted_same (and_then r s) = sorted_same r ∙ sorted_same s

put_reordered : (x : Plain) (u : List Plain) → Reordered (put_in x u) (x ∷ u)
put_reordered x [] = unmoved
put_reordered x (y ∷ u) = by_case (is_gt (tree_cmp x y)) (put_reordered x u)
  where
    by_case : (b : Bool) → Reordered (put_in x u) (x ∷ u) → Reordered (if b then y ∷ put_in x u else x ∷ y ∷ u) (x ∷ y ∷ u)
    by_case true r = and_then (behind r) swapped
    by_case false r = unmoved

-- a bag has the trees that it is made of
pub sorted_reordered : (u : List Plain) → Reordered (sorted u) u
sorted_reordered [] = unmoved
sorted_reordered (x ∷ u) = and_then (put_reordered x (sorted u)) (behind (sorted_reordered u))

pub rising_taken : {x : Plain} {u v : List Plain} → Taken x u v → IsRising u → IsRising v
rising_taken first h = h.1
rising_taken (later t) h = (Each-taken t h.0, rising_taken t h.1)

put_first : (x : Plain) (u : List Plain) → Each (λ y. is_gt (tree_cmp x y) ≡ false) u → put_in x u ≡ x ∷ u
put_first x [] h = refl
put_first x (y ∷ u) h = put_below x y u (Each-head h)

-- a rising list is in order
pub rising_sorted : (u : List Plain) → IsRising u → sorted u ≡ u
rising_sorted [] h = refl
rising_sorted (x ∷ u) h = ap (put_in x) (rising_sorted u h.1) ∙ put_first x u h.0

-- the tree that is put in a bag can be picked from it
pub picks_put : (x : Plain) (u : List Plain) → Member (x, u) (picks (put_in x u))
picks_put x [] = here
picks_put x (y ∷ u) = by_case (is_gt (tree_cmp x y)) (picks_put x u)
  where
    by_case : (b : Bool) → Member (x, u) (picks (put_in x u)) → Member (x, y ∷ u) (picks (if b then y ∷ put_in x u else x ∷ y ∷ u))
    by_case true m = there (map-Member (λ (q : Plain × List Plain). (q.0, y ∷ q.1)) m)
    by_case false m = here
