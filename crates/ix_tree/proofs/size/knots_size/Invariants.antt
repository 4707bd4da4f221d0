use Rattle.std.proofs.Common.{◌≡◌, ◌+◌, drop}
use Rattle.ix_tree.specs.Plain.{listed}
use Rattle.ix_tree.specs.Size.{size_of}
use Rattle.ix_tree.proofs.size.knots_size.Given as goal

abbrev pub invariant-loop-knot : goal.invariant-loop-knot
invariant-loop-knot l = l.sum + size_of (listed (drop l.knot-index l.knots)) ≡ size_of (listed l.knots)
