use Rattle.std.proofs.Common.{arith}
use Rattle.ix_journal.proofs.TextFronts.{begins_with_text-of}
use Rattle.ix_journal.proofs.header.whole_text.Goals as goal

pub returns : goal.returns
returns c = begins_with_text-of _ _ (λ i. omega (arith, c.type_inv.bytes i)) (omega arith)
    (omega arith) (omega arith)
