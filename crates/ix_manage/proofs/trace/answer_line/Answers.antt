use Rattle.ix_manage.specs.Trace.{done, no, full, large, yes}
use Rattle.ix_manage.proofs.trace.answer_line.Goals as goal

pub returns-in-Ok-clause-answers : goal.returns-in-Ok-clause-answers
returns-in-Ok-clause-answers c =
    let is = c.in-Ok.ensures.allowed in rw c.in-Ok.ensures.taken (yes is.permitted is.room is.within done)

pub returns-in-Err-NotPartial-clause-answers : goal.returns-in-Err-NotPartial-clause-answers
returns-in-Err-NotPartial-clause-answers c =
    let why = rw c.in-Err-NotPartial.field-0-is at c.in-Err-NotPartial.ensures.refused in
    rw c.in-Err-NotPartial.ensures.kept (no why done)

pub returns-in-Err-Full-clause-answers : goal.returns-in-Err-Full-clause-answers
returns-in-Err-Full-clause-answers c =
    let why = rw c.in-Err-Full.field-0-is at c.in-Err-Full.ensures.refused in
    rw c.in-Err-Full.ensures.kept (full why.0 why.1 done)

pub returns-in-Err-Over-clause-answers : goal.returns-in-Err-Over-clause-answers
returns-in-Err-Over-clause-answers c =
    let why = rw c.in-Err-Over.field-0-is at c.in-Err-Over.ensures.refused in
    rw c.in-Err-Over.ensures.kept (large why.1 why.2 why.3 done)
