use Rattle.std.proofs.Common.{◌≡◌, fold, take}
use Rattle.ix_watch.proofs.pairs.PairHash.hash.Given as goal

abbrev pub invariant-loop-value : goal.invariant-loop-value
invariant-loop-value g l = l.state ≡ fold g.H.Hasher.write l.initial.state (take l.value-index l.value-items)
