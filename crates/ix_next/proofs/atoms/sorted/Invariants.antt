use Rattle.std.proofs.Common.{◌≡◌, take}
use Rattle.ix_words.specs.Canon.{canon}
use Rattle.ix_values.specs.Order.{text_cmp}
use Rattle.ix_next.proofs.atoms.sorted.Given as goal

abbrev pub invariant-loop-value : goal.invariant-loop-value
invariant-loop-value l = l.sorted.items ≡ canon text_cmp (take l.value-index l.values)
