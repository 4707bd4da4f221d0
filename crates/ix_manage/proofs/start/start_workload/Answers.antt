use Rattle.ix_generate.specs.Workload.{examinations}
use Rattle.ix_manage.proofs.Examinations.{engine_refused, engine_stands, text_refused}
use Rattle.ix_manage.proofs.Stops.{handed_on}
use Rattle.ix_manage.proofs.start.start_workload.Goals as goal

pub returns-clause-stands : goal.returns-clause-stands
unfolding examinations
returns-clause-stands c =
    engine_stands c.engine_of.result c.in_ok-expression.expression c.in_ok-expression.ensures.ok c.engine_of.ensures.form

pub returns-clause-err : goal.returns-clause-err
unfolding examinations
returns-clause-err c =
    engine_refused c.engine_of.result c.in_ok-expression.expression c.in_ok-expression.ensures.ok c.args.limit
    c.engine_of.ensures.err

pub returns-in_err-expression-clause-err : goal.returns-in_err-expression-clause-err
unfolding examinations
returns-in_err-expression-clause-err c =
    handed_on c.from_residual.result c.in_err-expression.field-0.0 _ c.from_residual.ensures.1
    (text_refused c.args.limit c.in_err-expression.field-0.0 c.in_err-expression.ensures.err)
