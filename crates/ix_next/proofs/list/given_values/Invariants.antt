-- The given values of the texts so far.
use Rattle.std.proofs.Common.{map, string_bytes, take}
use Rattle.ix_next.specs.Lists.{AreGiven}
use Rattle.ix_next.proofs.list.given_values.Given as goal

abbrev pub invariant-loop-text : goal.invariant-loop-text
invariant-loop-text l = AreGiven (map string_bytes (take l.text-index l.texts)) l.given.items
