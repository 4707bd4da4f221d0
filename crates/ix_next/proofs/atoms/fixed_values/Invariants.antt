use Rattle.std.proofs.Common.{◌≡◌, take}
use Rattle.std.specs.List.{flat_map}
use Rattle.ix_next.specs.Fixed.{fixed_value}
use Rattle.ix_next.proofs.atoms.fixed_values.Given as goal

abbrev pub invariant-loop-atom : goal.invariant-loop-atom
invariant-loop-atom l = l.all.items ≡ flat_map (λ s. flat_map fixed_value s.arguments) (take l.atom-index l.atoms)
