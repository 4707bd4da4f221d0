use Rattle.std.proofs.Common.{refl}
use Rattle.ix_generate.specs.Workload.{examinations}
use Rattle.ix_generate.proofs.laws.the_text_of_the_expression.Goals as goal

pub returns : goal.returns
unfolding examinations
returns c = refl
