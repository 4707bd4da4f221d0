-- States as the code holds them: a tree, or the tree of the empty word, which is kept_tree as none.
use Rattle.std.specs.Prelude.{◌≡◌, ℕ, ◌+◌, Bool, not, ◌&&◌, ◌||◌, List, [], ◌∷◌, ◌++◌}
use Rattle.std.specs.Prelude.{map as each, Option, Some, None}
use Rattle.std.specs.Option.{unwrap_or}
use Rattle.ix_words.specs.Canon.{Ascending, when}
use Rattle.ix_words.specs.Each.{Each}
use Rattle.ix_values.specs.Order.{text_cmp}
use Rattle.ix_values.specs.PlainAction.{PlainAction}
use Rattle.ix_expr.specs.Form.{Form}
use Rattle.ix_expr.specs.Environment.{Environment, bind}
use Rattle.ix_tree.specs.Plain.{Plain, done, map, none, items_of}
use Rattle.ix_tree.specs.Order.{key, first_part}
use Rattle.ix_expr.specs.Tests.{in_alphabet}
use Rattle.ix_can.specs.TreeOf.{tree_of}
use Rattle.ix_can.specs.Laws.{IsProper}
use Rattle.ix_can.specs.May.{may, tree_at}
use Rattle.ix_why.specs.declared.state.State.{State}
use Rattle.ix_why.specs.declared.state.State.TheVariants.{Initial, Done, At}
use Rattle.ix_why.specs.declared.part.Part.{Part}
use Rattle.ix_why.specs.Blames.{nodes, here, only, owner, first_that, made_of}
use Rattle.ix_why.specs.Blames.{made_of_both, blames}
use Rattle.ix_why.specs.Trees.{left, right, entries, owner_maps, tree_for}

-- the tree that is kept_tree, or none where it is that of the empty word
abbrev pub kept_tree : State → Option Plain
kept_tree Initial = None
kept_tree Done = Some done
kept_tree (At knot) = Some knot.now

-- what is kept_tree of an operand
abbrev pub of_held : (Plain → Plain) → Option Plain → Option Plain
of_held f None = None
of_held f (Some t) = Some (f t)

-- the tree of an expression of which this is kept_tree
abbrev pub tree_held : Form → Option Plain → Plain
tree_held x s = unwrap_or s (tree_of x [] [])

-- the entries
abbrev pub entries_held : Option Plain → List Plain
entries_held None = []
entries_held (Some t) = entries t

-- the maps: of the empty word one alone, in which no value has begun
abbrev pub maps_held : Option Plain → List Plain
maps_held None = map none ∷ []
maps_held (Some t) = owner_maps t

-- the entries ascend by their values
abbrev pub AscendByValue : List Plain → Type 0
AscendByValue es = Ascending (λ x y. text_cmp (key x) (key y)) es

-- the values in the order in which they are tried
abbrev pub tried_held : PlainAction → Option Plain → List (Option (List ℕ))
tried_held a s = each Some a.values ++ (each (λ x. Some (key x)) (entries_held s) ++ None ∷ [])

-- the action may not come, and it is in the alphabet where that is asked too
abbrev pub refuses_if : Bool → Form → Environment → Plain → PlainAction → Bool
refuses_if within y e t a = (not within || in_alphabet y e a) && not (may y e t a)

-- of a body for a value
abbrev pub refuses_for : Bool → List ℕ → Form → Environment → Option Plain → PlainAction
    → Option (List ℕ) → Bool
refuses_for within p y e s a v =
    refuses_if within y (bind p v e) (tree_held y (of_held (tree_for v) s)) a

-- the trees of a body may be asked for every value
pub record BodiesProper (y : Form) (s : Option Plain) : Type 0 where
  pub ascending : AscendByValue (entries_held s)
  pub each : (v : Option (List ℕ)) → IsProper y (tree_held y (of_held (tree_for v) s))

-- what is kept_tree of the value in the only map
pub record IsOwned (v : List ℕ) (maps : List Plain) (s : Option Plain) : Type 0 where
  pub in_map : Plain
  pub alone : only maps ≡ Some in_map
  pub tree : (common : Plain) → unwrap_or s common ≡ tree_at v common (items_of (first_part in_map))

-- the tree of the left operand and of the right one, and that of a body for a value
abbrev pub left_held : Form → Option Plain → Plain
left_held y s = tree_held y (of_held left s)

abbrev pub right_held : Form → Option Plain → Plain
right_held z s = tree_held z (of_held right s)

abbrev pub body_held : Form → Option Plain → Option (List ℕ) → Plain
body_held y s v = tree_held y (of_held (tree_for v) s)

-- the parts of one operand that refuse
abbrev pub side_blames : Bool → ℕ → Form → Environment → Plain → PlainAction → List Part
side_blames within n y e t a = when (refuses_if within y e t a) (blames n y e t a)

-- those of two
abbrev pub both_blame : Bool → ℕ → Form → Form → Environment → Option Plain → PlainAction
    → List Part
both_blame within n y z e s a = side_blames within (n + 1) y e (left_held y s) a
    ++ side_blames within (n + 1 + nodes y) z e (right_held z s) a

-- those of a body for the first value that refuses
abbrev pub body_blames : Bool → ℕ → List ℕ → Form → Environment → Option Plain → PlainAction
    → List Part
body_blames within n p y e s a =
    made_of (first_that (refuses_for within p y e s a) (tried_held a s))
    (λ v. blames (n + 1) y (bind p v e) (body_held y s v) a)

-- those of a body for the one owner in the only map, or else the node
abbrev pub owner_blames : ℕ → List ℕ → Form → Environment → Option Plain → PlainAction → List Part
owner_blames n p y e s a = made_of_both (only (maps_held s)) (owner p y e a)
    (λ m v. blames (n + 1) y (bind p (Some v) e)
    (tree_at v (tree_of y [] []) (items_of (first_part m))) a)
    (here n e)

-- the trees of each map may be asked, and its entries ascend by their values
abbrev pub MapsProper : Form → Option Plain → Type 0
MapsProper y s = Each
    (λ m. AscendByValue (items_of (first_part m))
    × Each (λ x. IsProper y (first_part x)) (items_of (first_part m)))
    (maps_held s)
