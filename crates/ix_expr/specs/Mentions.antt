-- Which names and which parameters the atoms of an expression have.
use Rattle.std.specs.Prelude.{◌≡◌, ℕ, Bool, ◌||◌, List}
use Rattle.ix_expr.specs.Form.{Form, atom, opt, seq, star, par, par_star, or, and, couple, any}
use Rattle.ix_expr.specs.Form.{every, sync, all, times}
use Rattle.ix_expr.specs.Atoms.{SomeAtom}
use Rattle.ix_expr.specs.FormFaults.{names_parameter}

-- some atom of the expression has this name
abbrev pub Mentions : Form → List ℕ → Type 0
Mentions x name = SomeAtom (λ s. s.name ≡ name) x

-- whether some atom of the expression names the parameter p; one below a quantifier that binds p
-- anew counts too
abbrev pub some_names : List ℕ → Form → Bool
some_names p (atom x) = names_parameter p x
some_names p (opt y) = some_names p y
some_names p (seq y z) = some_names p y || some_names p z
some_names p (star y) = some_names p y
some_names p (par y z) = some_names p y || some_names p z
some_names p (par_star y) = some_names p y
some_names p (or y z) = some_names p y || some_names p z
some_names p (and y z) = some_names p y || some_names p z
some_names p (couple y z) = some_names p y || some_names p z
some_names p (any q y) = some_names p y
some_names p (every q y) = some_names p y
some_names p (sync q y) = some_names p y
some_names p (all q y) = some_names p y
some_names p (times n y) = some_names p y
