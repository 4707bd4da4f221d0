-- A file that was found isn't absent.
use Rattle.ix_memory.proofs.Looking.{Lists-there}
use Rattle.ix_memory.proofs.files.loaded.Goals as goal

pub returns-then-bytes-limit-clause-absent : goal.returns-then-bytes-limit-clause-absent
returns-then-bytes-limit-clause-absent c = λ absent. absurd (Lists-there _ _ _ c.in-Some.ensures absent)

pub returns-in-Ok-clause-absent : goal.returns-in-Ok-clause-absent
returns-in-Ok-clause-absent c = λ absent. absurd (Lists-there _ _ _ c.in-Some.ensures absent)

pub returns-in-Err-clause-absent : goal.returns-in-Err-clause-absent
returns-in-Err-clause-absent c = λ absent. absurd (Lists-there _ _ _ c.in-Some.ensures absent)
