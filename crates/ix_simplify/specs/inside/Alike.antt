-- A test of two expressions.
use Rattle.std.specs.Prelude.{Bool, false, ◌&&◌, ◌==◌, List, length}
use Rattle.std.specs.List.{list_all, zip}
use Rattle.ix_values.specs.Order.{text_eq}
use Rattle.ix_expr.specs.declared.arg.Arg.{Arg}
use Rattle.ix_expr.specs.declared.arg.Arg.TheVariants.{Fixed, Param}
use Rattle.ix_expr.specs.Form.{PlainAtom, Form, atom, opt, seq, star, par, par_star, or, and}
use Rattle.ix_expr.specs.Form.{couple, any, every, sync, all, times}

-- whether the arguments are the same
abbrev pub same_argument : Arg → Arg → Bool
same_argument (Fixed u) (Fixed v) = text_eq u v
same_argument (Param p) (Param q) = text_eq p q
same_argument (Fixed u) (Param q) = false
same_argument (Param p) (Fixed v) = false

-- whether a pair's arguments are the same
abbrev pub is_twice : Arg × Arg → Bool
is_twice pair = same_argument pair.0 pair.1

-- whether there are as many arguments, the same in each place
abbrev pub same_arguments : List Arg → List Arg → Bool
same_arguments xs ys = (length xs == length ys) && list_all is_twice (zip xs ys)

-- whether the atoms have the same name and the same arguments
abbrev pub same_atom : PlainAtom → PlainAtom → Bool
same_atom x y = text_eq x.name y.name && same_arguments x.arguments y.arguments

-- whether the expressions are the same
abbrev pub same_form : Form → Form → Bool
same_form (atom x) (atom y) = same_atom x y
same_form (opt y) (opt z) = same_form y z
same_form (seq y u) (seq z v) = same_form y z && same_form u v
same_form (star y) (star z) = same_form y z
same_form (par y u) (par z v) = same_form y z && same_form u v
same_form (par_star y) (par_star z) = same_form y z
same_form (or y u) (or z v) = same_form y z && same_form u v
same_form (and y u) (and z v) = same_form y z && same_form u v
same_form (couple y u) (couple z v) = same_form y z && same_form u v
same_form (any p y) (any q z) = text_eq p q && same_form y z
same_form (every p y) (every q z) = text_eq p q && same_form y z
same_form (sync p y) (sync q z) = text_eq p q && same_form y z
same_form (all p y) (all q z) = text_eq p q && same_form y z
same_form (times m y) (times n z) = (m == n) && same_form y z
same_form _ _ = false
