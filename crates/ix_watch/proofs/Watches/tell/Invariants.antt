use Rattle.std.proofs.Common.{◌≡◌}
use Rattle.ix_watch.proofs.WatchLemmas.{told_upto}
use Rattle.ix_watch.proofs.Watches.tell.Given as goal

abbrev pub invariant-loop-index : goal.invariant-loop-index
invariant-loop-index l = l.self ≡ told_upto l.name l.index l.initial.self
