-- The nodes of an expression in pre-order, and what stands above each.
use Rattle.std.specs.Prelude.{ℕ, ◌+◌, Bool, true, false, List, [], ◌∷◌, ◌++◌, Option, Some, None}
use Rattle.ix_values.specs.Order.{text_eq}
use Rattle.ix_expr.specs.Form.{Form, atom, opt, seq, star, par, par_star, or, and, couple}
use Rattle.ix_expr.specs.Form.{any, every, sync, all, times}

-- each node's expression: a node, then its left operand, then its right
abbrev pub forms : Form → List Form
forms (atom x) = atom x ∷ []
forms (opt y) = opt y ∷ forms y
forms (seq y z) = seq y z ∷ (forms y ++ forms z)
forms (star y) = star y ∷ forms y
forms (par y z) = par y z ∷ (forms y ++ forms z)
forms (par_star y) = par_star y ∷ forms y
forms (or y z) = or y z ∷ (forms y ++ forms z)
forms (and y z) = and y z ∷ (forms y ++ forms z)
forms (couple y z) = couple y z ∷ (forms y ++ forms z)
forms (any p y) = any p y ∷ forms y
forms (every p y) = every p y ∷ forms y
forms (sync p y) = sync p y ∷ forms y
forms (all p y) = all p y ∷ forms y
forms (times n y) = times n y ∷ forms y

-- a node: the expressions of the nodes above it, the inmost first, and its own
pub record Spot : Type 0 where
  pub above : List Form
  pub form : Form

-- the nodes in the same order, below these
abbrev pub spots : List Form → Form → List Spot
spots above (atom x) = record { above = above; form = atom x } ∷ []
spots above (opt y) = record { above = above; form = opt y } ∷ spots (opt y ∷ above) y
spots above (seq y z) = record { above = above; form = seq y z }
    ∷ (spots (seq y z ∷ above) y ++ spots (seq y z ∷ above) z)
spots above (star y) = record { above = above; form = star y } ∷ spots (star y ∷ above) y
spots above (par y z) = record { above = above; form = par y z }
    ∷ (spots (par y z ∷ above) y ++ spots (par y z ∷ above) z)
spots above (par_star y) = record { above = above; form = par_star y }
    ∷ spots (par_star y ∷ above) y
spots above (or y z) = record { above = above; form = or y z }
    ∷ (spots (or y z ∷ above) y ++ spots (or y z ∷ above) z)
spots above (and y z) = record { above = above; form = and y z }
    ∷ (spots (and y z ∷ above) y ++ spots (and y z ∷ above) z)
spots above (couple y z) = record { above = above; form = couple y z }
    ∷ (spots (couple y z ∷ above) y ++ spots (couple y z ∷ above) z)
spots above (any p y) = record { above = above; form = any p y } ∷ spots (any p y ∷ above) y
spots above (every p y) = record { above = above; form = every p y }
    ∷ spots (every p y ∷ above) y
spots above (sync p y) = record { above = above; form = sync p y } ∷ spots (sync p y ∷ above) y
spots above (all p y) = record { above = above; form = all p y } ∷ spots (all p y ∷ above) y
spots above (times n y) = record { above = above; form = times n y }
    ∷ spots (times n y ∷ above) y

-- the items of a list with their numbers, counted from n
abbrev pub numbered : {A : Type 0} → ℕ → List A → List (ℕ × A)
numbered n [] = []
numbered n (x ∷ xs) = (n, x) ∷ numbered (n + 1) xs

-- the first item, if there is one
abbrev pub first : {A : Type 0} → List A → Option A
first [] = None
first (x ∷ xs) = Some x

-- whether it is a quantifier that binds the parameter
abbrev pub binds : List ℕ → Form → Bool
binds p (any q y) = text_eq q p
binds p (every q y) = text_eq q p
binds p (sync q y) = text_eq q p
binds p (all q y) = text_eq q p
binds p x = false

-- whether it is a `*` or a `#`
abbrev pub is_iteration : Form → Bool
is_iteration (star y) = true
is_iteration (par_star y) = true
is_iteration x = false
