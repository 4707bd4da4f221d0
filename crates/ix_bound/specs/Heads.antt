-- Headed expressions: the actions that can come first have names that none behind them has.
use Rattle.std.specs.Prelude.{ℕ, Bool, true, false, not, ◌&&◌, ◌||◌, List}
use Rattle.std.specs.List.{list_any}
use Rattle.ix_values.specs.Order.{text_eq}
use Rattle.ix_expr.specs.Form.{Form, atom, opt, seq, or, and, any, every}
use Rattle.ix_expr.specs.Tests.{accepts_empty}
use Rattle.ix_expr.specs.Atoms.{atoms_of}
use Rattle.ix_bound.specs.Names.{has_name}

-- whether heads and a rest are defined: for atoms, `?`, `any`, `every`, `|` and `&`, and for `y -
-- z` where y doesn't accept the empty word
abbrev pub has_heads : Form → Bool
has_heads (atom x) = true
has_heads (opt y) = has_heads y
has_heads (seq y z) = has_heads y && not (accepts_empty y)
has_heads (or y z) = has_heads y && has_heads z
has_heads (and y z) = has_heads y && has_heads z
has_heads (any p y) = has_heads y
has_heads (every p y) = has_heads y
has_heads x = false

-- whether the name is a head: one that the first action can have
abbrev pub is_head : Form → List ℕ → Bool
is_head (atom x) name = text_eq x.name name
is_head (opt y) name = is_head y name
is_head (seq y z) name = is_head y name
is_head (or y z) name = is_head y name || is_head z name
is_head (and y z) name = is_head y name || is_head z name
is_head (any p y) name = is_head y name
is_head (every p y) name = is_head y name
is_head x name = false

-- whether the name is in the rest: one that a later action can have
abbrev pub is_in_rest : Form → List ℕ → Bool
is_in_rest (atom x) name = false
is_in_rest (opt y) name = is_in_rest y name
is_in_rest (seq y z) name = is_in_rest y name || has_name z name
is_in_rest (or y z) name = is_in_rest y name || is_in_rest z name
is_in_rest (and y z) name = is_in_rest y name || is_in_rest z name
is_in_rest (any p y) name = is_in_rest y name
is_in_rest (every p y) name = is_in_rest y name
is_in_rest x name = false

-- whether a name of one of these atoms is a head of the expression and in its rest
abbrev pub comes_again : Form → List ℕ → Bool
comes_again x name = is_head x name && is_in_rest x name

-- whether heads and a rest are defined and share no name
abbrev pub is_headed : Form → Bool
is_headed x = has_heads x && not (list_any (λ a. comes_again x a.name) (atoms_of x))
