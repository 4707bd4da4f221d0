use Rattle.std.proofs.Common.{length}
use Rattle.ix_lines.proofs.FirstFaults.{GoodBefore}
use Rattle.ix_lines.proofs.line_faults.first_fault.Given as goal

abbrev pub invariant-loop-rest : goal.invariant-loop-rest
invariant-loop-rest g l = GoodBefore g.G.LineGrammar.holds l.bytes l.rest

abbrev pub decreases-loop-rest : goal.decreases-loop-rest
decreases-loop-rest g l = length l.rest
