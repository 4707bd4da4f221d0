-- Parts of a list: the items with an owner, and the items in a set.
use Rattle.std.specs.Prelude.{Bool, cond, List, [], ◌∷◌, ◌++◌}

-- the items of w whose owner is mine, in order; the owners stand in the order of the items
abbrev pub part : {K A : Type 0} → (K → Bool) → List K → List A → List A
part mine [] w = []
part mine (owner ∷ owners) [] = []
part mine (owner ∷ owners) (a ∷ w) = cond (mine owner) (a ∷ part mine owners w) (part mine owners w)

-- all pieces, one behind the other
abbrev pub joined : {A : Type 0} → List (List A) → List A
joined [] = []
joined (piece ∷ pieces) = piece ++ joined pieces

-- the second list has those items of the first that are in, in order
pub data Projection {A : Type 0} (In : A → Type 0) : List A → List A → Type 0 where
  ended : Projection In [] []
  kept : {a : A} {w u : List A} → In a → Projection In w u → Projection In (a ∷ w) (a ∷ u)
  left_out : {a : A} {w u : List A} → ¬ In a → Projection In w u → Projection In (a ∷ w) u
