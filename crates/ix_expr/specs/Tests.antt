-- The tests of matching and of the alphabet, as definitions that compute.
use Rattle.std.specs.Prelude.{ℕ, ◌==◌, Bool, true, false, ◌&&◌, ◌||◌, List, [], ◌∷◌, map, Option}
use Rattle.std.specs.Prelude.{Some}
use Rattle.std.specs.Prelude.{None}
use Rattle.std.specs.List.{list_any}
use Rattle.ix_values.specs.Order.{text_eq}
use Rattle.ix_values.specs.PlainAction.{PlainAction}
use Rattle.ix_expr.specs.declared.arg.Arg.{Arg}
use Rattle.ix_expr.specs.declared.arg.Arg.TheVariants.{Fixed, Param}
use Rattle.ix_expr.specs.Form.{PlainAtom, Form, atom, opt, seq, star, par, par_star, or, and}
use Rattle.ix_expr.specs.Form.{couple, any, every, sync, all, times}
use Rattle.ix_expr.specs.Environment.{Environment, value_in, bind}

-- whether the value is there and is v
abbrev pub is_value : Option (List ℕ) → List ℕ → Bool
is_value None v = false
is_value (Some u) v = text_eq u v

-- whether the argument's value is v
abbrev pub has_value : Environment → Arg → List ℕ → Bool
has_value e (Fixed u) v = text_eq u v
has_value e (Param p) v = is_value (value_in e p) v

-- whether there are as many arguments as values, and each argument's value is the value in its
-- place
abbrev pub have_values : Environment → List Arg → List (List ℕ) → Bool
have_values e [] [] = true
have_values e [] (v ∷ values) = false
have_values e (argument ∷ arguments) [] = false
have_values e (argument ∷ arguments) (v ∷ values) = has_value e argument v
    && have_values e arguments values

-- whether the atom matches the action
abbrev pub is_match : PlainAtom → Environment → PlainAction → Bool
is_match x e a = text_eq x.name a.name && have_values e x.arguments a.values

-- the values of an action, and outside, which stands for every other value
abbrev pub values_and_outside : PlainAction → List (Option (List ℕ))
values_and_outside a = None ∷ map Some a.values

-- whether the action is in the alphabet; a quantifier's parameter is tried at the action's own
-- values and outside
abbrev pub in_alphabet : Form → Environment → PlainAction → Bool
in_alphabet (atom x) e a = is_match x e a
in_alphabet (opt y) e a = in_alphabet y e a
in_alphabet (seq y z) e a = in_alphabet y e a || in_alphabet z e a
in_alphabet (star y) e a = in_alphabet y e a
in_alphabet (par y z) e a = in_alphabet y e a || in_alphabet z e a
in_alphabet (par_star y) e a = in_alphabet y e a
in_alphabet (or y z) e a = in_alphabet y e a || in_alphabet z e a
in_alphabet (and y z) e a = in_alphabet y e a || in_alphabet z e a
in_alphabet (couple y z) e a = in_alphabet y e a || in_alphabet z e a
in_alphabet (any p y) e a = list_any (λ v. in_alphabet y (bind p v e) a) (values_and_outside a)
in_alphabet (every p y) e a = list_any (λ v. in_alphabet y (bind p v e) a) (values_and_outside a)
in_alphabet (sync p y) e a = list_any (λ v. in_alphabet y (bind p v e) a) (values_and_outside a)
in_alphabet (all p y) e a = list_any (λ v. in_alphabet y (bind p v e) a) (values_and_outside a)
in_alphabet (times n y) e a = in_alphabet y e a

-- whether the empty word is complete
abbrev pub accepts_empty : Form → Bool
accepts_empty (atom x) = false
accepts_empty (opt y) = true
accepts_empty (seq y z) = accepts_empty y && accepts_empty z
accepts_empty (star y) = true
accepts_empty (par y z) = accepts_empty y && accepts_empty z
accepts_empty (par_star y) = true
accepts_empty (or y z) = accepts_empty y || accepts_empty z
accepts_empty (and y z) = accepts_empty y && accepts_empty z
accepts_empty (couple y z) = accepts_empty y && accepts_empty z
accepts_empty (any p y) = accepts_empty y
accepts_empty (every p y) = accepts_empty y
accepts_empty (sync p y) = accepts_empty y
accepts_empty (all p y) = accepts_empty y
accepts_empty (times n y) = (n == 0) || accepts_empty y
