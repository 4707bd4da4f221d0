use Rattle.std.proofs.Common.{subst}
use Rattle.ix_parse.specs.inside.Outcomes.{IsFaultOf}
use Rattle.ix_manage.proofs.load.read_placed.Goals as goal

pub returns-in-Err-Bad-clause-err : goal.returns-in-Err-Bad-clause-err
returns-in-Err-Bad-clause-err c = subst (IsFaultOf c.args.text.now) c.in-Err-Bad.field-0-is c.in-Err-Bad.ensures.fault
