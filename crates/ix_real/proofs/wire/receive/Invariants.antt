use Rattle.std.specs.Prelude.{[]}
use Rattle.std.specs.Io.KnownBytes.{Consumes}
use Rattle.ix_real.proofs.wire.receive.Given as goal

abbrev pub invariant-loop : goal.invariant-loop
invariant-loop g l = Consumes (g.S.Read.remaining l.fn.stream) (g.S.Read.remaining l.stream) []
