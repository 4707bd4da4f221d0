use Rattle.std.proofs.Common.{arith}
use Rattle.ix_step.proofs.sets.put.Goals as goal

pub returns-in-Err-Over-clause-put : goal.returns-in-Err-Over-clause-put
returns-in-Err-Over-clause-put g c =
    let over = (c.in-Err-Over.ensures.over c.in-Err-Over.field-0-0 c.in-Err-Over.field-0-1).0 (cc) in
    λ e. (over.is_new, omega (arith, over.above, over.sum, over.limit))
