use Rattle.std.proofs.Common.{◌≡◌, ◌++◌, take}
use Rattle.std.specs.List.{flat_map}
use Rattle.ix_next.specs.Fixed.{fixed_value}
use Rattle.ix_next.proofs.atoms.push_fixed.Given as goal

abbrev pub invariant-loop-arg : goal.invariant-loop-arg
invariant-loop-arg l = l.values.items ≡ l.initial.values.items ++ flat_map fixed_value (take l.arg-index l.args)
