use Rattle.ix_can.proofs.SpentTell.{done_tells}
use Rattle.ix_can.proofs.laws.spent_states_are_complete_and_stuck.Goals as goal

pub returns : goal.returns
returns c = done_tells
