-- Lists compared by their members alone: one strictly ascending list stands for all lists with the
-- same members.
use Rattle.std.specs.Prelude.{◌≡◌, Bool, cond, List, [], ◌∷◌, ◌++◌, map, flat_map}
use Rattle.std.specs.Cmp.{IsTotalOrder}
use Rattle.std.specs.declared.cmp.Ordering.{Ordering}
use Rattle.std.specs.declared.cmp.Ordering.TheVariants.{Less, Equal, Greater}
use Rattle.ix_words.specs.Each.{Each, Member}

-- a total order in which only an item itself is equal to it
pub record IsStrictOrder {A : Type 0} (compare : A → A → Ordering) : Type 0 where
  pub total : IsTotalOrder compare
  pub tells_apart : (a b : A) → compare a b ≡ Equal → a ≡ b

-- each item is below all later ones
pub data Ascending {A : Type 0} (compare : A → A → Ordering) : List A → Type 0 where
  ascending_end : Ascending compare []
  below : {a : A} {w : List A} → Each (λ b. compare a b ≡ Less) w → Ascending compare w
      → Ascending compare (a ∷ w)

-- the same items are in u and in v
pub record SameMembers {A : Type 0} (u v : List A) : Type 0 where
  pub to : (a : A) → Member a u → Member a v
  pub from : (a : A) → Member a v → Member a u

-- one of three, by an order
abbrev pub by_order : {B : Type 0} → Ordering → B → B → B → B
by_order Less x y z = x
by_order Equal x y z = y
by_order Greater x y z = z

-- a put before the first item above it, unless it is there
abbrev pub put_once : {A : Type 0} → (A → A → Ordering) → A → List A → List A
put_once compare a [] = a ∷ []
put_once compare a (b ∷ w) = by_order (compare a b) (a ∷ b ∷ w) (b ∷ w) (b ∷ put_once compare a w)

-- the items of w, each once, in ascending order
abbrev pub canon : {A : Type 0} → (A → A → Ordering) → List A → List A
canon compare [] = []
canon compare (a ∷ w) = put_once compare a (canon compare w)

-- the list where the test holds, else nothing
abbrev pub when : {A : Type 0} → Bool → List A → List A
when b w = cond b w []

-- a in front of the front
abbrev pub with_start : {A : Type 0} → A → List A × List A → List A × List A
with_start a p = (a ∷ p.0, p.1)

-- a behind the back
abbrev pub with_end : {A : Type 0} → A → List A × List A → List A × List A
with_end a p = (p.0, p.1 ++ a ∷ [])

-- every way to cut w into a front and a back
abbrev pub cuts : {A : Type 0} → List A → List (List A × List A)
cuts [] = ([], []) ∷ []
cuts (a ∷ w) = ([], a ∷ w) ∷ map (with_start a) (cuts w)

-- a in front of the left part, and a in front of the right part
abbrev pub give_start : {A : Type 0} → A → List A × List A → List (List A × List A)
give_start a p = (a ∷ p.0, p.1) ∷ (p.0, a ∷ p.1) ∷ []

-- a behind the left part, and a behind the right part
abbrev pub give_end : {A : Type 0} → A → List A × List A → List (List A × List A)
give_end a p = (p.0 ++ a ∷ [], p.1) ∷ (p.0, p.1 ++ a ∷ []) ∷ []

-- every way to split w into a left and a right part
abbrev pub splits : {A : Type 0} → List A → List (List A × List A)
splits [] = ([], []) ∷ []
splits (a ∷ w) = flat_map (give_start a) (splits w)
