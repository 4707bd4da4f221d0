use Rattle.ix_manage.proofs.Ending.{start_refused}
use Rattle.ix_manage.proofs.Stops.{handed_on}
use Rattle.ix_manage.proofs.start.start.Goals as goal

pub returns-in_err-expression-clause-err : goal.returns-in_err-expression-clause-err
returns-in_err-expression-clause-err g c =
    handed_on c.from_residual.result c.in_err-expression.field-0.0 _ c.from_residual.ensures.1
    (start_refused (g.F.Files.state c.args.files.now) (g.F.Files.state c.load_expression.new.files) c.args.name.now
    c.args.limit c.in_err-expression.field-0.0 c.in_err-expression.ensures.err)
