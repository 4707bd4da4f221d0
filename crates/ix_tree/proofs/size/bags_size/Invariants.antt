use Rattle.std.proofs.Common.{◌≡◌, ◌+◌, drop, map}
use Rattle.ix_tree.specs.Plain.{listed}
use Rattle.ix_tree.specs.PlainOf.{plain_bag}
use Rattle.ix_tree.specs.Size.{size_of}
use Rattle.ix_tree.proofs.size.bags_size.Given as goal

abbrev pub invariant-loop-bag : goal.invariant-loop-bag
invariant-loop-bag l = l.sum + size_of (listed (map plain_bag (drop l.bag-index l.bags))) ≡ size_of (listed (map plain_bag l.bags))
