use Rattle.ix_script.proofs.OneFault.{one-first_fault}
use Rattle.ix_script.proofs.laws.scripts_have_one_first_fault.Goals as goal

pub returns : goal.returns
returns c = one-first_fault
