-- The front of the buffer is what the file holds from the place on.
use Rattle.std.proofs.Common.{◌≤◌, ◌+◌, length, take}
use Rattle.std.specs.Io.KnownBytes.{Consumes}
use Rattle.ix_real.specs.inside.Places.{known_from}
use Rattle.ix_real.proofs.journal.fill_at.Given as goal

abbrev pub invariant-loop : goal.invariant-loop
invariant-loop g l = (l.filled ≤ length l.buf)
    × Consumes (known_from l.at (g.F.ReadAt.bytes l.file)) (known_from (l.at + l.filled) (g.F.ReadAt.bytes l.file)) (take l.filled l.buf)
