use Rattle.std.proofs.Common.{◌≡◌}
use Rattle.ix_many.proofs.connections.Connections.cut_slow.Given as goal

abbrev pub invariant-loop-place : goal.invariant-loop-place
invariant-loop-place l = l.self-inside.places.items ≡ l.fn.self
