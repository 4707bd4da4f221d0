use Rattle.std.proofs.Common.{map, drop}
use Rattle.ix_memory.specs.inside.CanCome.{beside, events_beside}
use Rattle.ix_memory.proofs.TakingAll.{Takes}
use Rattle.ix_memory.proofs.events.Events.new.Given as goal

abbrev pub invariant-loop-event : goal.invariant-loop-event
invariant-loop-event l =
    Takes l.bytes.items l.pieces.items l.last (map beside (drop l.event-index l.events)) (events_beside l.events)
