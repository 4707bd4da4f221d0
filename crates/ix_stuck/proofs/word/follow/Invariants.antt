-- The word leads to the tree.
use Rattle.ix_stuck.specs.inside.Marks.{LeadsTo}
use Rattle.ix_stuck.specs.inside.Ruled.{Led, form}
use Rattle.ix_stuck.proofs.word.follow.Given as goal

abbrev pub invariant-loop-by : goal.invariant-loop-by
invariant-loop-by l =
    LeadsTo (form l.rules) l.rules.moves.now l.rules.start.now l.told.word.items l.told.tree × Led l.rules l.told.tree
