use Rattle.std.proofs.Common.{Err, ap}
use Rattle.ix_manage.specs.Replay.{too_long}
use Rattle.ix_manage.proofs.load.load_script.Goals as goal

pub returns-in-Err-TooLong-clause-err : goal.returns-in-Err-TooLong-clause-err
returns-in-Err-TooLong-clause-err g c = too_long (c.in-Err-TooLong.ensures.too_long (ap Err c.in-Err-TooLong.field-0-is))
