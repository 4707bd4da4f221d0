use Rattle.std.proofs.Common.{◌-◌, ◌≡◌, drop, length}
use Rattle.ix_watch.specs.inside.Watches.{changes_of}
use Rattle.ix_watch.proofs.changes.ChangesIterator.next.Given as goal

-- what was looked at isn't to be told
abbrev pub invariant-loop-self : goal.invariant-loop-self
invariant-loop-self l =
    record { left : changes_of l.self-inside.name.now (drop l.self-inside.index l.self-inside.watches.now) ≡ l.fn.self; count : l.len ≡ length l.self-inside.watches.now }

abbrev pub decreases-loop-self : goal.decreases-loop-self
decreases-loop-self l = l.len - l.self-inside.index
