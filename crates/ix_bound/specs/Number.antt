-- The number that bounds the Size of an expression's trees over so many different values.
use Rattle.std.specs.Prelude.{ℕ, ◌+◌, ◌*◌}
use Rattle.ix_expr.specs.Form.{Form, atom, opt, seq, star, par, par_star, or, and, couple}
use Rattle.ix_expr.specs.Form.{any, every, sync, all, times}

-- what a quantifier with one tree for every other value, and one for each of k values, comes to
abbrev pub with_values : ℕ → ℕ → ℕ
with_values k b = 1 + b + k * (1 + b)

-- the bound over k different values; `#` and `times` have none, and their rows are never used,
-- since they are refused
abbrev pub bound_of : Form → ℕ → ℕ
bound_of (atom x) k = 1
bound_of (opt y) k = 1 + bound_of y k
bound_of (seq y z) k = 1 + bound_of y k + bound_of z k
bound_of (star y) k = 1 + bound_of y k
bound_of (par y z) k = 2 + bound_of y k + bound_of z k
bound_of (par_star y) k = 1
bound_of (or y z) k = 1 + bound_of y k + bound_of z k
bound_of (and y z) k = 1 + bound_of y k + bound_of z k
bound_of (couple y z) k = 1 + bound_of y k + bound_of z k
bound_of (any p y) k = with_values k (bound_of y k)
bound_of (every p y) k = with_values k (bound_of y k)
bound_of (sync p y) k = with_values k (bound_of y k)
bound_of (all p y) k = 2 + k * (1 + bound_of y k)
bound_of (times n y) k = 1
