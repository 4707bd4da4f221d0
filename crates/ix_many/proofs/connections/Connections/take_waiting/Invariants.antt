use Rattle.ix_many.specs.inside.Streams.{KeepsStreams}
use Rattle.ix_many.proofs.connections.Connections.take_waiting.Given as goal

abbrev pub invariant-loop-place : goal.invariant-loop-place
invariant-loop-place g l = KeepsStreams l.fn.self l.self-inside.places.items
