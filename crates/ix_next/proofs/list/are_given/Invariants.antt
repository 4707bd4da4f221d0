-- The texts so far are those of given values.
use Rattle.std.proofs.Common.{map, string_bytes, take}
use Rattle.ix_words.specs.Each.{Each}
use Rattle.ix_next.specs.Lists.{IsGiven}
use Rattle.ix_next.proofs.list.are_given.Given as goal

abbrev pub invariant-loop-text : goal.invariant-loop-text
invariant-loop-text l = Each IsGiven (map string_bytes (take l.text-index l.texts))
