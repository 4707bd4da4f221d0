use Rattle.ix_expr.proofs.Testing.{empty_complete}
use Rattle.ix_can.proofs.laws.empty_tests_decide.Goals as goal

pub returns : goal.returns
returns c = empty_complete
