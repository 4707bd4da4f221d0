use Rattle.ix_values.proofs.OneFault.{one-fault}
use Rattle.ix_values.proofs.reading.action_texts_have_one_fault.Goals as goal

pub returns : goal.returns
returns c = one-fault
