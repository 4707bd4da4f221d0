use Rattle.std.proofs.Common.{◌≡◌, take}
use Rattle.ix_values.specs.Order.{text_eq}
use Rattle.ix_next.specs.Candidates.{once}
use Rattle.ix_next.proofs.values.distinct.Given as goal

abbrev pub invariant-loop-value : goal.invariant-loop-value
invariant-loop-value l = l.distinct.items ≡ once text_eq (take l.value-index l.values)
