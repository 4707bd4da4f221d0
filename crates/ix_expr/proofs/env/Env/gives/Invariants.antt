use Rattle.std.proofs.Common.{◌≡◌, take, reverse}
use Rattle.ix_expr.specs.Environment.{value_in}
use Rattle.ix_expr.proofs.env.Env.gives.Given as goal

-- the entries from the index on don't have the name
abbrev pub invariant-loop-index : goal.invariant-loop-index
invariant-loop-index l = value_in (reverse (take l.index l.entries)) l.name ≡ value_in (reverse l.entries) l.name
