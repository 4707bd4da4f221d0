use Rattle.std.proofs.Common.{Err, ap, subst}
use Rattle.std.specs.List.{AllByRecursion}
use Rattle.ix_lines.specs.TextLines.{lines_of}
use Rattle.ix_manage.proofs.BadLines.{each_line}
use Rattle.ix_values.specs.Faults.{IsActionText}
use Rattle.ix_manage.specs.ActionLines.{IsFirstActionFault}
use Rattle.ix_manage.specs.Trace.{too_long, bad_line}
use Rattle.ix_manage.proofs.load.load_actions.Goals as goal

pub returns-in-None-clause-lines : goal.returns-in-None-clause-lines
returns-in-None-clause-lines g c =
    let good = subst (λ bytes. AllByRecursion IsActionText (lines_of bytes)) c.deref.ensures.value c.in-None.ensures in
    each_line _ good

pub returns-in-Some-clause-err : goal.returns-in-Some-clause-err
returns-in-Some-clause-err g c =
    bad_line c.in-Ok.ensures.bytes c.in-Ok.ensures.within
    (subst (λ bytes. IsFirstActionFault bytes c.in-Some.fault.code c.in-Some.fault.at) c.deref.ensures.value c.in-Some.ensures)

pub returns-in-Err-TooLong-clause-err : goal.returns-in-Err-TooLong-clause-err
returns-in-Err-TooLong-clause-err g c = too_long (c.in-Err-TooLong.ensures.too_long (ap Err c.in-Err-TooLong.field-0-is))
