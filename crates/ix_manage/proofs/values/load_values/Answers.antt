use Rattle.std.proofs.Common.{Err, ap}
use Rattle.ix_manage.specs.Desk.{too_long}
use Rattle.ix_manage.proofs.Desking.{values_err, values_ok}
use Rattle.ix_manage.proofs.values.load_values.Goals as goal

pub returns-in-Ok-clause-ok : goal.returns-in-Ok-clause-ok
returns-in-Ok-clause-ok g c =
    values_ok (g.F.Files.state c.args.files.now) c.args.name.now
    c.in-Ok.bytes.items c.deref.result.now c.deref.ensures.value
    c.in-Ok.ensures.bytes c.in-Ok.ensures.within (λ given. given.items) c.read_values.result c.read_values.ensures.good c.read_values.ensures.some

pub returns-in-Ok-clause-err : goal.returns-in-Ok-clause-err
returns-in-Ok-clause-err g c =
    values_err (g.F.Files.state c.args.files.now) (g.F.Files.state c.load.new.self) c.args.name.now
    c.in-Ok.bytes.items c.deref.result.now c.deref.ensures.value
    c.in-Ok.ensures.bytes c.in-Ok.ensures.within c.read_values.result c.read_values.ensures.err

pub returns-in-Err-TooLong-clause-err : goal.returns-in-Err-TooLong-clause-err
returns-in-Err-TooLong-clause-err g c = too_long (c.in-Err-TooLong.ensures.too_long (ap Err c.in-Err-TooLong.field-0-is))
