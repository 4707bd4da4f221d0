use Rattle.ix_manager.proofs.LaterLemmas.{later_states_are_these}
use Rattle.ix_manager.proofs.laws.later_states_are_these.Goals as goal

pub returns : goal.returns
returns c = later_states_are_these
