use Rattle.ix_expr.proofs.Testing.{alphabet_says}
use Rattle.ix_can.proofs.laws.alphabet_tests_decide.Goals as goal

pub returns : goal.returns
returns c = alphabet_says
