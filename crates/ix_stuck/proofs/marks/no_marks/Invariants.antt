use Rattle.std.proofs.Common.{◌≡◌, false, replicate}
use Rattle.ix_stuck.proofs.marks.no_marks.Given as goal

abbrev pub invariant-loop-count : goal.invariant-loop-count
invariant-loop-count l = l.marks.items ≡ replicate l._count false
