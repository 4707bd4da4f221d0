-- What parameters stand for, and when an atom matches an action.
use Rattle.std.specs.Prelude.{◌≡◌, ℕ, List, [], ◌∷◌, Option, Some, None, if◌then◌else◌}
use Rattle.ix_values.specs.Order.{text_eq}
use Rattle.ix_values.specs.PlainAction.{PlainAction}
use Rattle.ix_expr.specs.declared.arg.Arg.{Arg}
use Rattle.ix_expr.specs.declared.arg.Arg.TheVariants.{Fixed, Param}
use Rattle.ix_expr.specs.Form.{PlainAtom}

-- parameters, each with its value or, as None, outside; the first entry of a parameter counts
abbrev pub Environment : Type 0
Environment = List (List ℕ × Option (List ℕ))

-- the environment with the parameter p given v
abbrev pub bind : List ℕ → Option (List ℕ) → Environment → Environment
bind p v e = (p, v) ∷ e

-- the value of the parameter p, or None where it is outside or isn't there
abbrev pub value_in : Environment → List ℕ → Option (List ℕ)
value_in [] p = None
value_in (entry ∷ e) p = if text_eq entry.0 p then entry.1 else value_in e p

-- the argument's value is v: its own where it is fixed, the environment's where it is a parameter
abbrev pub HasValue : Environment → Arg → List ℕ → Type 0
HasValue e (Fixed u) v = u ≡ v
HasValue e (Param p) v = value_in e p ≡ Some v

-- there are as many arguments as values, and each argument's value is the value in its place
abbrev pub HaveValues : Environment → List Arg → List (List ℕ) → Type 0
HaveValues e [] [] = Unit {0}
HaveValues e [] (v ∷ values) = ⊥
HaveValues e (argument ∷ arguments) [] = ⊥
HaveValues e (argument ∷ arguments) (v ∷ values) = HasValue e argument v
    × HaveValues e arguments values

-- the atom matches the action: the names agree, the counts agree, and each argument's value is the
-- action's value there
abbrev pub Matches : PlainAtom → Environment → PlainAction → Type 0
Matches x e a = (x.name ≡ a.name) × HaveValues e x.arguments a.values
