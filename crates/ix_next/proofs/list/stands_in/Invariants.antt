-- The line isn't among the lines so far.
use Rattle.std.proofs.Common.{map, take}
use Rattle.ix_words.specs.Each.{Member}
use Rattle.ix_next.proofs.list.stands_in.Given as goal

abbrev pub invariant-loop-other : goal.invariant-loop-other
invariant-loop-other l = ¬ Member l.line (map (λ o. o.now) (take l.other-index l.lines))
