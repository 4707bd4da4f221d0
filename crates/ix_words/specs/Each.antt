-- What holds of each item of a list.
use Rattle.std.specs.Prelude.{List, [], ◌∷◌}

-- every item of w has G
pub data Each {A : Type 0} (G : A → Type 0) : List A → Type 0 where
  no_item : Each G []
  item : {a : A} {w : List A} → G a → Each G w → Each G (a ∷ w)

-- a is an item of w
pub data Member {A : Type 0} (a : A) : List A → Type 0 where
  here : {w : List A} → Member a (a ∷ w)
  there : {b : A} {w : List A} → Member a w → Member a (b ∷ w)

-- there are as many owners as items, and each owner has G with its item
pub data EachPair {K A : Type 0} (G : K → A → Type 0) : List K → List A → Type 0 where
  no_pair : EachPair G [] []
  pair : {owner : K} {a : A} {owners : List K} {w : List A} → G owner a → EachPair G owners w
      → EachPair G (owner ∷ owners) (a ∷ w)
