use Rattle.ix_parse.proofs.OneMeaning.{form_fault-one}
use Rattle.ix_parse.proofs.laws.expressions_have_one_form_fault.Goals as goal

pub returns : goal.returns
returns c = form_fault-one
