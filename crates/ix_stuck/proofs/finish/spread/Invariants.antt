use Rattle.std.proofs.Common.{◌≡◌, length}
use Rattle.ix_stuck.specs.inside.Marks.{AreMarked}
use Rattle.ix_stuck.specs.inside.Ruled.{form}
use Rattle.ix_stuck.proofs.finish.spread.Given as goal

abbrev pub invariant-loop-index : goal.invariant-loop-index
invariant-loop-index l =
    (length l.marks.items ≡ length l.fn.marks.items) × AreMarked (form l.rules) l.rules.moves.now l.states l.marks.items
