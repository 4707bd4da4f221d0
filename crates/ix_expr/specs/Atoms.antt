-- The atoms of an expression.
use Rattle.std.specs.Prelude.{◌⊎◌, Bool, ◌&&◌, ◌==◌, List, [], ◌∷◌, ◌++◌, length}
use Rattle.ix_values.specs.Order.{text_eq}
use Rattle.ix_expr.specs.Form.{PlainAtom, Form, atom, opt, seq, star, par, par_star, or, and}
use Rattle.ix_expr.specs.Form.{couple, any, every, sync, all, times}

-- the atoms in pre-order
abbrev pub atoms_of : Form → List PlainAtom
atoms_of (atom x) = x ∷ []
atoms_of (opt y) = atoms_of y
atoms_of (seq y z) = atoms_of y ++ atoms_of z
atoms_of (star y) = atoms_of y
atoms_of (par y z) = atoms_of y ++ atoms_of z
atoms_of (par_star y) = atoms_of y
atoms_of (or y z) = atoms_of y ++ atoms_of z
atoms_of (and y z) = atoms_of y ++ atoms_of z
atoms_of (couple y z) = atoms_of y ++ atoms_of z
atoms_of (any p y) = atoms_of y
atoms_of (every p y) = atoms_of y
atoms_of (sync p y) = atoms_of y
atoms_of (all p y) = atoms_of y
atoms_of (times n y) = atoms_of y

-- some atom is one of these
abbrev pub SomeAtom : (PlainAtom → Type 0) → Form → Type 0
SomeAtom Is (atom x) = Is x
SomeAtom Is (opt y) = SomeAtom Is y
SomeAtom Is (seq y z) = SomeAtom Is y ⊎ SomeAtom Is z
SomeAtom Is (star y) = SomeAtom Is y
SomeAtom Is (par y z) = SomeAtom Is y ⊎ SomeAtom Is z
SomeAtom Is (par_star y) = SomeAtom Is y
SomeAtom Is (or y z) = SomeAtom Is y ⊎ SomeAtom Is z
SomeAtom Is (and y z) = SomeAtom Is y ⊎ SomeAtom Is z
SomeAtom Is (couple y z) = SomeAtom Is y ⊎ SomeAtom Is z
SomeAtom Is (any p y) = SomeAtom Is y
SomeAtom Is (every p y) = SomeAtom Is y
SomeAtom Is (sync p y) = SomeAtom Is y
SomeAtom Is (all p y) = SomeAtom Is y
SomeAtom Is (times n y) = SomeAtom Is y

-- whether two atoms match actions of one name and one number of values
abbrev pub are_alike : PlainAtom → PlainAtom → Bool
are_alike s t = text_eq s.name t.name && (length s.arguments == length t.arguments)
