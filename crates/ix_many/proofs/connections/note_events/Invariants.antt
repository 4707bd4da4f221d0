use Rattle.std.proofs.Common.{◌≡◌}
use Rattle.ix_many.proofs.connections.note_events.Given as goal

abbrev pub invariant-loop-event : goal.invariant-loop-event
invariant-loop-event l = l.places.items ≡ l.fn.places.items
