use Rattle.ix_expr.proofs.Testing.{match_says}
use Rattle.ix_can.proofs.laws.match_tests_decide.Goals as goal

pub returns : goal.returns
returns c = match_says
