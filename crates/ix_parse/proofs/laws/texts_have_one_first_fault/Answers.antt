use Rattle.ix_parse.proofs.OneMeaning.{one-first_fault}
use Rattle.ix_parse.proofs.laws.texts_have_one_first_fault.Goals as goal

pub returns : goal.returns
returns c = one-first_fault
