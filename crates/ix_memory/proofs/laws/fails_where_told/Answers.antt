use Rattle.ix_memory.proofs.Calling as laws
use Rattle.ix_memory.proofs.laws.fails_where_told.Goals as goal

pub returns : goal.returns
returns c = laws.fails_where_told
