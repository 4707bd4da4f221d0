-- A measure of recursions over an expression: how many nodes it has.
use Rattle.std.proofs.Common.{ℕ, suc, ◌+◌}
use Rattle.ix_expr.specs.Form.{Form, atom, opt, seq, star, par, par_star, or, and, couple, any, every, sync, all, times}

-- the number of nodes
abbrev pub count : Form → ℕ
count (atom x) = 1
count (opt y) = suc (count y)
count (seq y z) = suc (count y + count z)
count (star y) = suc (count y)
count (par y z) = suc (count y + count z)
count (par_star y) = suc (count y)
count (or y z) = suc (count y + count z)
count (and y z) = suc (count y + count z)
count (couple y z) = suc (count y + count z)
count (any p y) = suc (count y)
count (every p y) = suc (count y)
count (sync p y) = suc (count y)
count (times n y) = suc (count y)
count (all p y) = suc (count y)
