use Rattle.std.proofs.Common.{◌≡◌, length}
use Rattle.ix_stuck.specs.inside.Marks.{AreMarked}
use Rattle.ix_stuck.specs.inside.Ruled.{form}
use Rattle.ix_stuck.proofs.finish.finishing.Given as goal

abbrev pub invariant-loop : goal.invariant-loop
invariant-loop l =
    (length l.marks.items ≡ length l.states) × AreMarked (form l.rules) l.rules.moves.now l.states l.marks.items
