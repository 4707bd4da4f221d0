use Rattle.ix_manager.proofs.SendLemmas as laws
use Rattle.ix_manager.proofs.laws.unmarked_replies_are_the_text.Goals as goal

pub returns : goal.returns
returns c = laws.unmarked_replies_are_the_text
