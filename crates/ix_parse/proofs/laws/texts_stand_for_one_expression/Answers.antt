use Rattle.ix_parse.proofs.OneMeaning.{one-expression}
use Rattle.ix_parse.proofs.laws.texts_stand_for_one_expression.Goals as goal

pub returns : goal.returns
returns c = one-expression
