use Rattle.ix_memory.proofs.Calling as laws
use Rattle.ix_memory.proofs.laws.none_fails_untold.Goals as goal

pub returns : goal.returns
returns c = laws.none_fails_untold
