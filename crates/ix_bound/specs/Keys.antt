-- Keyed expressions: for each name and number of arguments one place holds the parameter.
use Rattle.std.specs.Prelude.{ℕ, Bool, not, ◌&&◌, ◌||◌, List, [], ◌∷◌, length, get_or, nat_lt}
use Rattle.std.specs.List.{list_any, list_all}
use Rattle.ix_expr.specs.declared.arg.Arg.{Arg}
use Rattle.ix_expr.specs.declared.arg.Arg.TheVariants.{Fixed}
use Rattle.ix_expr.specs.Form.{PlainAtom, Form}
use Rattle.ix_expr.specs.FormFaults.{is_parameter}
use Rattle.ix_expr.specs.Atoms.{atoms_of, are_alike}

-- whether the argument in this place, counted from 0, is the parameter p
abbrev pub is_at : List ℕ → ℕ → List Arg → Bool
is_at p place arguments = nat_lt place (length arguments)
    && is_parameter p (get_or arguments place (Fixed []))

-- whether the atom b holds the parameter in this place, where it is alike to a
abbrev pub keeps_key : List ℕ → PlainAtom → ℕ → PlainAtom → Bool
keeps_key p a place b = not (are_alike a b) || is_at p place b.arguments

-- whether in one place each of these atoms that is alike to a holds the parameter
abbrev pub has_key : List ℕ → List PlainAtom → PlainAtom → Bool
has_key p xs a = list_any (λ place. list_all (keeps_key p a place) xs) (0 ∷ 1 ∷ 2 ∷ 3 ∷ [])

-- whether each atom of the expression has such a place
abbrev pub is_keyed : List ℕ → Form → Bool
is_keyed p y = list_all (has_key p (atoms_of y)) (atoms_of y)
