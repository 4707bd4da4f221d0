-- The names of an expression's atoms.
use Rattle.std.specs.Prelude.{ℕ, Bool, List}
use Rattle.std.specs.List.{list_any}
use Rattle.ix_values.specs.Order.{text_eq}
use Rattle.ix_expr.specs.Form.{Form}
use Rattle.ix_expr.specs.Atoms.{atoms_of}

-- whether an atom of the expression has this name
abbrev pub has_name : Form → List ℕ → Bool
has_name x name = list_any (λ a. text_eq a.name name) (atoms_of x)

-- whether the two expressions have a name in common
abbrev pub share_a_name : Form → Form → Bool
share_a_name y z = list_any (λ a. has_name z a.name) (atoms_of y)
