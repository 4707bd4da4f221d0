use Rattle.std.proofs.Common.{take}
use Rattle.ix_next.specs.inside.Fillings.{Took, filled_atoms}
use Rattle.ix_next.proofs.fill.fill_atoms.Given as goal

abbrev pub invariant-loop-atom : goal.invariant-loop-atom
invariant-loop-atom l = Took l.scope l.initial.tray l.tray (filled_atoms l.scope (take l.atom-index l.atoms))
