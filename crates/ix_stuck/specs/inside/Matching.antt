-- Which atoms can match which actions.
use Rattle.std.specs.Prelude.{ℕ, Bool, true, false, not, ◌&&◌, ◌||◌, List, [], ◌∷◌, map, filter}
use Rattle.std.specs.List.{list_any}
use Rattle.ix_values.specs.Order.{text_eq}
use Rattle.ix_values.specs.PlainAction.{PlainAction, Word}
use Rattle.ix_expr.specs.declared.arg.Arg.{Arg}
use Rattle.ix_expr.specs.declared.arg.Arg.TheVariants.{Fixed, Param}
use Rattle.ix_expr.specs.Form.{PlainAtom}

-- the argument isn't the parameter p, or the value is v
abbrev pub agrees : List ℕ → List ℕ → Arg → List ℕ → Bool
agrees p v (Fixed u) w = true
agrees p v (Param q) w = not (text_eq p q) || text_eq v w

-- each argument that is the parameter p has the value v in its place
abbrev pub all_agree : List ℕ → List ℕ → List Arg → List (List ℕ) → Bool
all_agree p v [] values = true
all_agree p v (argument ∷ arguments) [] = true
all_agree p v (argument ∷ arguments) (w ∷ values) =
    agrees p v argument w && all_agree p v arguments values

-- the first value can be that of the first argument, with these behind them
abbrev pub can_begin : Arg → List ℕ → List Arg → List (List ℕ) → Bool
can_begin (Fixed u) v arguments values = text_eq u v
can_begin (Param p) v arguments values = all_agree p v arguments values

-- there are as many arguments as values, and some environment gives the arguments these values
abbrev pub can_have : List Arg → List (List ℕ) → Bool
can_have [] [] = true
can_have [] (v ∷ values) = false
can_have (argument ∷ arguments) [] = false
can_have (argument ∷ arguments) (v ∷ values) =
    can_begin argument v arguments values && can_have arguments values

-- whether the atom matches the action under some environment
abbrev pub can_match : PlainAtom → PlainAction → Bool
can_match s a = text_eq s.name a.name && can_have s.arguments a.values

-- whether the atom can match none of the actions
abbrev pub matches_none : Word → ℕ × PlainAtom → Bool
matches_none coming place = not (list_any (can_match place.1) coming)

-- the numbers of those atoms that can match none of the actions
abbrev pub gone_of : Word → List (ℕ × PlainAtom) → List ℕ
gone_of coming places =
    map (λ (place : ℕ × PlainAtom). place.0) (filter (matches_none coming) places)
