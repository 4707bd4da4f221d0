use Rattle.std.proofs.Common.{take}
use Rattle.ix_expr.specs.Environment.{HaveValues}
use Rattle.ix_expr.proofs.matching.have_values.Given as goal

abbrev pub invariant-loop-index : goal.invariant-loop-index
invariant-loop-index l = HaveValues l.env (take l.index l.args) (take l.index l.values)
