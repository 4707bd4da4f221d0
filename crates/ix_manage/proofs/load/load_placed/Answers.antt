use Rattle.std.proofs.Common.{Err, ap}
use Rattle.ix_manage.specs.Trace.{longer}
use Rattle.ix_manage.proofs.Ending.{placed_ok, placed_err}
use Rattle.ix_manage.proofs.load.load_placed.Goals as goal

pub returns-in-Ok-clause-ok : goal.returns-in-Ok-clause-ok
returns-in-Ok-clause-ok g c =
    placed_ok (g.F.Files.state c.args.files.now) (g.F.Files.state c.load.new.self) c.args.name.now
    c.in-Ok.text.items c.deref.result.now c.deref.ensures.value
    c.in-Ok.ensures.bytes c.read_placed.result c.read_placed.ensures.ok

pub returns-in-Ok-clause-err : goal.returns-in-Ok-clause-err
returns-in-Ok-clause-err g c =
    placed_err (g.F.Files.state c.args.files.now) (g.F.Files.state c.load.new.self) c.args.name.now
    c.in-Ok.text.items c.deref.result.now c.deref.ensures.value
    c.in-Ok.ensures.bytes c.read_placed.result c.read_placed.ensures.err

pub returns-in-Err-TooLong-clause-err : goal.returns-in-Err-TooLong-clause-err
returns-in-Err-TooLong-clause-err g c = longer (c.in-Err-TooLong.ensures.too_long (ap Err c.in-Err-TooLong.field-0-is))
