use Rattle.ix_many.specs.inside.Streams.{IsFree}
use Rattle.ix_many.proofs.connections.Connections.listen.Given as goal

abbrev pub invariant-loop : goal.invariant-loop
invariant-loop g l = IsFree l.places.items
