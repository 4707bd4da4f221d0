-- The one expression that an expression becomes, computed from its atoms up.
use Rattle.std.specs.Prelude.{ℕ, List, if◌then◌else◌}
use Rattle.ix_expr.specs.Form.{Form, atom, opt, seq, star, par, par_star, or, and, couple, any}
use Rattle.ix_expr.specs.Form.{every, sync, all, times}
use Rattle.ix_expr.specs.Mentions.{some_names}
use Rattle.ix_simplify.specs.inside.Alike.{same_form}

-- `?` over the operand
abbrev pub optional : Form → Form
optional (opt y) = opt y
optional (star y) = star y
optional (par_star y) = par_star y
optional y = opt y

-- `*` over the operand
abbrev pub repeated : Form → Form
repeated (opt y) = star y
repeated (star y) = star y
repeated (par_star y) = par_star y
repeated y = star y

-- `#` over the operand
abbrev pub side_by_side : Form → Form
side_by_side (opt y) = par_star y
side_by_side (star y) = par_star y
side_by_side (par_star y) = par_star y
side_by_side y = par_star y

-- `|`, `&` and `@` between the operands
abbrev pub one_of : Form → Form → Form
one_of y z = if same_form y z then y else or y z

abbrev pub both_of : Form → Form → Form
both_of y z = if same_form y z then y else and y z

abbrev pub coupled : Form → Form → Form
coupled y z = if same_form y z then y else couple y z

-- `any`, `every` and `sync` over the body
abbrev pub for_any : List ℕ → Form → Form
for_any p y = if some_names p y then any p y else y

abbrev pub for_every : List ℕ → Form → Form
for_every p y = if some_names p y then every p y else y

abbrev pub in_sync : List ℕ → Form → Form
in_sync p y = if some_names p y then sync p y else y

-- the whole
abbrev pub simplest : Form → Form
simplest (atom x) = atom x
simplest (opt y) = optional (simplest y)
simplest (seq y z) = seq (simplest y) (simplest z)
simplest (star y) = repeated (simplest y)
simplest (par y z) = par (simplest y) (simplest z)
simplest (par_star y) = side_by_side (simplest y)
simplest (or y z) = one_of (simplest y) (simplest z)
simplest (and y z) = both_of (simplest y) (simplest z)
simplest (couple y z) = coupled (simplest y) (simplest z)
simplest (any p y) = for_any p (simplest y)
simplest (every p y) = for_every p (simplest y)
simplest (sync p y) = in_sync p (simplest y)
simplest (all p y) = all p (simplest y)
simplest (times n y) = times n (simplest y)
