use Rattle.ix_manager.proofs.SendLemmas as laws
use Rattle.ix_manager.proofs.laws.sent_replies_are_the_wire.Goals as goal

pub returns : goal.returns
returns c = laws.sent_replies_are_the_wire
