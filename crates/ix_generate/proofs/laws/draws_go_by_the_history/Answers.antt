use Rattle.ix_generate.proofs.OpenCalls.{drawn_behind}
use Rattle.ix_generate.proofs.laws.draws_go_by_the_history.Goals as goal

pub returns : goal.returns
returns c = drawn_behind
