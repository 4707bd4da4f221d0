use Rattle.std.proofs.Common.{◌≡◌, ◌++◌, take}
use Rattle.ix_next.specs.Given.{given_for}
use Rattle.ix_next.proofs.values.push_given.Given as goal

abbrev pub invariant-loop-one : goal.invariant-loop-one
invariant-loop-one l = l.values.items ≡ l.initial.values.items ++ given_for l.parameter (take l.one-index l.given)
