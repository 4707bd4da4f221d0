-- The measure of the recursion over expressions: the number of nodes.
use Rattle.std.proofs.Common.{ℕ, ◌+◌}
use Rattle.ix_expr.specs.Form.{Form, atom, opt, seq, star, par, par_star, or, and, couple, any, every, sync, all, times}

-- how many nodes the expression has
abbrev pub form_size : Form → ℕ
form_size (atom x) = 1
form_size (opt y) = 1 + form_size y
form_size (seq y z) = 1 + form_size y + form_size z
form_size (star y) = 1 + form_size y
form_size (par y z) = 1 + form_size y + form_size z
form_size (par_star y) = 1 + form_size y
form_size (or y z) = 1 + form_size y + form_size z
form_size (and y z) = 1 + form_size y + form_size z
form_size (couple y z) = 1 + form_size y + form_size z
form_size (any p y) = 1 + form_size y
form_size (every p y) = 1 + form_size y
form_size (sync p y) = 1 + form_size y
form_size (all p y) = 1 + form_size y
form_size (times n y) = 1 + form_size y
