-- What holds of each item, of fronts, backs and members.
use Rattle.std.proofs.Common.{◌≡◌, ◌⊎◌, inl, inr, List, [], ◌∷◌, ◌++◌, subst}
use Rattle.ix_words.specs.Each.{Each, no_item, item, Member, here, there}
use Rattle.ix_words.specs.Parts.{joined}

module _ {A : Type 0} {G : A → Type 0} where
  pub Each-append : {u v : List A} → Each G u → Each G v → Each G (u ++ v)
  Each-append no_item k = k
  Each-append (item g h) k = item g (Each-append h k)

  pub Each-left : (u v : List A) → Each G (u ++ v) → Each G u
  Each-left [] v h = no_item
  Each-left (a ∷ u) v (item g h) = item g (Each-left u v h)

  pub Each-right : (u v : List A) → Each G (u ++ v) → Each G v
  Each-right [] v h = h
  Each-right (a ∷ u) v (item g h) = Each-right u v h

  pub Each-same : {u v : List A} → u ≡ v → Each G u → Each G v
  Each-same e h = subst (Each G) e h

  pub Each-head : {a : A} {w : List A} → Each G (a ∷ w) → G a
  Each-head (item g h) = g

  pub Each-tail : {a : A} {w : List A} → Each G (a ∷ w) → Each G w
  Each-tail (item g h) = h

  pub Each-anything : ((a : A) → G a) → (w : List A) → Each G w
  Each-anything g [] = no_item
  Each-anything g (a ∷ w) = item (g a) (Each-anything g w)

  pub Each-member : {a : A} {w : List A} → Each G w → Member a w → G a
  Each-member h here = Each-head h
  Each-member h (there m) = Each-member (Each-tail h) m

  pub Each-members : (w : List A) → ((a : A) → Member a w → G a) → Each G w
  Each-members [] g = no_item
  Each-members (a ∷ w) g = item (g a here) (Each-members w (λ b m. g b (there m)))

  pub Each-joined : {pieces : List (List A)} → Each (Each G) pieces → Each G (joined pieces)
  Each-joined no_item = no_item
  Each-joined (item g h) = Each-append g (Each-joined h)

  pub Each-pieces : (pieces : List (List A)) → Each G (joined pieces) → Each (Each G) pieces
  Each-pieces [] h = no_item
  Each-pieces (piece ∷ pieces) h =
      item (Each-left piece (joined pieces) h) (Each-pieces pieces (Each-right piece (joined pieces) h))

module _ {A : Type 0} {G H : A → Type 0} where
  pub Each-weaker : {w : List A} → ((a : A) → G a → H a) → Each G w → Each H w
  Each-weaker f no_item = no_item
  Each-weaker f (item g h) = item (f _ g) (Each-weaker f h)

  pub Each-both : {w : List A} → Each G w → Each H w → Each (λ a. G a × H a) w
  Each-both no_item k = no_item
  Each-both (item g h) k = item (g, Each-head k) (Each-both h (Each-tail k))

module _ {A : Type 0} where
  pub Member-left : {a : A} {u : List A} → Member a u → (v : List A) → Member a (u ++ v)
  Member-left here v = here
  Member-left (there m) v = there (Member-left m v)

  pub Member-right : {a : A} {v : List A} → (u : List A) → Member a v → Member a (u ++ v)
  Member-right [] m = m
  Member-right (b ∷ u) m = there (Member-right u m)

  pub Member-either : {a : A} (u v : List A) → Member a (u ++ v) → Member a u ⊎ Member a v
  Member-either [] v m = inr m
  Member-either (b ∷ u) v here = inl here
  Member-either (b ∷ u) v (there m) = elim (Member-either u v m) [ inl l ↦ inl (there l) | inr r ↦ inr r ]
