-- What the names and values in an expression are.
use Rattle.std.specs.Prelude.{◌≡◌, ◌≤◌, false, length, All}
use Rattle.ix_values.specs.Texts.{IsName, IsValue}
use Rattle.ix_expr.specs.declared.arg.Arg.{Arg}
use Rattle.ix_expr.specs.declared.arg.Arg.TheVariants.{Fixed, Param}
use Rattle.ix_expr.specs.Form.{PlainAtom, Form, atom, opt, seq, star, par, par_star, or, and}
use Rattle.ix_expr.specs.Form.{couple, any, every, sync, all, times}
use Rattle.ix_expr.specs.Reserved.{is_reserved}

-- a fixed argument is a value, a parameter has a name
abbrev pub IsArgument : Arg → Type 0
IsArgument (Fixed v) = IsValue v
IsArgument (Param p) = IsName p

-- a name that isn't reserved, and at most four arguments
pub record IsAtom (x : PlainAtom) : Type 0 where
  pub name : IsName x.name
  pub unreserved : is_reserved x.name ≡ false
  pub arguments : All IsArgument x.arguments
  pub few : length x.arguments ≤ 4

-- each atom is one, and each quantifier's parameter has a name
abbrev pub IsSpelled : Form → Type 0
IsSpelled (atom x) = IsAtom x
IsSpelled (opt y) = IsSpelled y
IsSpelled (seq y z) = IsSpelled y × IsSpelled z
IsSpelled (star y) = IsSpelled y
IsSpelled (par y z) = IsSpelled y × IsSpelled z
IsSpelled (par_star y) = IsSpelled y
IsSpelled (or y z) = IsSpelled y × IsSpelled z
IsSpelled (and y z) = IsSpelled y × IsSpelled z
IsSpelled (couple y z) = IsSpelled y × IsSpelled z
IsSpelled (any p y) = IsName p × IsSpelled y
IsSpelled (every p y) = IsName p × IsSpelled y
IsSpelled (sync p y) = IsName p × IsSpelled y
IsSpelled (all p y) = IsName p × IsSpelled y
IsSpelled (times n y) = IsSpelled y
