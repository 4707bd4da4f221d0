-- Measures of the functions that fill places, and what their loops have taken.
use Rattle.std.proofs.Common.{◌+◌, ◌*◌, length, take, map}
use Rattle.std.specs.List.{range_with_len}
use Rattle.ix_next.specs.declared.term.Term.TheVariants.{Known, New}
use Rattle.ix_next.specs.inside.Fillings.{Took, filled_with}
use Rattle.ix_next.proofs.fill.+fill.Given as goal

abbrev pub decreases-fill : goal.decreases-fill
decreases-fill l = 8 * length l.args.now

abbrev pub decreases-fill_place : goal.decreases-fill_place
decreases-fill_place l = 8 * length l.rest.now + 7

abbrev pub decreases-fill_fixed : goal.decreases-fill_fixed
decreases-fill_fixed l = 8 * length l.rest.now + 1

abbrev pub decreases-fill_param : goal.decreases-fill_param
decreases-fill_param l = 8 * length l.rest.now + 6

abbrev pub decreases-fill_again : goal.decreases-fill_again
decreases-fill_again l = 8 * length l.rest.now + 1

abbrev pub decreases-fill_first : goal.decreases-fill_first
decreases-fill_first l = 8 * length l.rest.now + 5

abbrev pub decreases-fill_known : goal.decreases-fill_known
decreases-fill_known l = 8 * length l.rest.now + 4

abbrev pub decreases-fill_new : goal.decreases-fill_new
decreases-fill_new l = 8 * length l.rest.now + 4

abbrev pub invariant-fill_known-loop-value : goal.invariant-fill_known-loop-value
invariant-fill_known-loop-value l = Took l.scope l.initial.tray l.tray (filled_with l.scope l.rest l.filling l.parameter (map Known (take l.value-index l.value-items)))

abbrev pub invariant-fill_new-loop-before : goal.invariant-fill_new-loop-before
invariant-fill_new-loop-before l = Took l.scope l.initial.tray l.tray (filled_with l.scope l.rest l.filling l.parameter (map New (range_with_len 1 l.before)))
