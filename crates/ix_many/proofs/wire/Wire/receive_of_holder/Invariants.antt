use Rattle.std.proofs.Common.{◌≡◌}
use Rattle.ix_many.proofs.wire.Wire.receive_of_holder.Given as goal

abbrev pub invariant-loop : goal.invariant-loop
invariant-loop g l = (l.self-inside.connections ≡ l.fn.self.streams) × (l.self-inside.hold ≡ l.fn.self.hold)
