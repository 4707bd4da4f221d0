use Rattle.std.proofs.Common.{◌≡◌, ◌+◌, drop, map}
use Rattle.ix_tree.specs.Plain.{listed}
use Rattle.ix_tree.specs.PlainOf.{plain_pair}
use Rattle.ix_tree.specs.Size.{size_of}
use Rattle.ix_tree.proofs.size.pairs_size.Given as goal

abbrev pub invariant-loop-pair : goal.invariant-loop-pair
invariant-loop-pair l = l.sum + size_of (listed (map plain_pair (drop l.pair-index l.pairs))) ≡ size_of (listed (map plain_pair l.pairs))
