-- Each event so far can come.
use Rattle.ix_memory.specs.inside.CanCome.{CanAllCome, events_beside}
use Rattle.ix_trials_of_commands.proofs.tests.serves.events_of.Given as goal

abbrev pub invariant-loop-piece : goal.invariant-loop-piece
invariant-loop-piece l = CanAllCome (events_beside l.events.items)
