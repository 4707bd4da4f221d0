-- The lines so far are given values, one more at each.
use Rattle.std.proofs.Common.{◌≡◌, ◌<◌, ◌≤◌, ◌+◌, ◌++◌, map, length}
use Rattle.ix_lines.specs.TextLines.{bytes_of, lines_of}
use Rattle.ix_next.specs.Lists.{AreGiven, StandOnce}
use Rattle.ix_next.proofs.list.read_values.Given as goal

abbrev pub invariant-loop-rest : goal.invariant-loop-rest
invariant-loop-rest l =
    (lines_of l.bytes ≡ map (λ b. b.now) l.before.items ++ lines_of l.rest)
    × AreGiven (map (λ b. b.now) l.before.items) l.given.items
    × StandOnce (map (λ b. b.now) l.before.items)
    × (length l.before.items ≤ 64)
    × (0 < length l.rest → bytes_of (map (λ b. b.now) l.before.items) + length l.rest ≡ length l.bytes)
    × (0 < length l.before.items + length l.rest)

abbrev pub decreases-loop-rest : goal.decreases-loop-rest
decreases-loop-rest l = length l.rest
