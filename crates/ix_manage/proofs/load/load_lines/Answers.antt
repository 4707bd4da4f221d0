use Rattle.std.proofs.Common.{Err, ap}
use Rattle.ix_manage.specs.inside.Refusal.{longer}
use Rattle.ix_manage.proofs.load.load_lines.Goals as goal

pub returns-in-Err-TooLong-clause-err : goal.returns-in-Err-TooLong-clause-err
returns-in-Err-TooLong-clause-err g c = longer (c.in-Err-TooLong.ensures.too_long (ap Err c.in-Err-TooLong.field-0-is))
