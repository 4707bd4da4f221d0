-- Expressions as contracts see them: plain data, with no pointers in it.
use Rattle.std.specs.Prelude.{ℕ, List}
use Rattle.ix_expr.specs.declared.arg.Arg.{Arg}

-- an atom: the name of an action, and its arguments
pub record PlainAtom : Type 0 where
  pub name : List ℕ
  pub arguments : List Arg

-- the atom of a name and arguments
abbrev pub atom_of : List ℕ → List Arg → PlainAtom
atom_of name arguments = record { name = name; arguments = arguments }

-- an expression, one constructor for each form; a quantifier has the name of its parameter first,
-- `times` its number
pub data Form : Type 0 where
  atom : PlainAtom → Form
  opt : Form → Form
  seq : Form → Form → Form
  star : Form → Form
  par : Form → Form → Form
  par_star : Form → Form
  or : Form → Form → Form
  and : Form → Form → Form
  couple : Form → Form → Form
  any : List ℕ → Form → Form
  every : List ℕ → Form → Form
  sync : List ℕ → Form → Form
  all : List ℕ → Form → Form
  times : ℕ → Form → Form
