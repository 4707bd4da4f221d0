-- Each stream keeps its number, and nobody is the holder.
use Rattle.std.proofs.Common.{◌≡◌, None, false}
use Rattle.ix_many.specs.inside.Streams.{KeepsStreams}
use Rattle.ix_many.proofs.wire.Wire.next.Given as goal

abbrev pub invariant-loop : goal.invariant-loop
invariant-loop g l = KeepsStreams l.fn.self.streams l.self-inside.connections
    × (l.self-inside.hold ≡ record { holder = None; in_turn = false })
