use Rattle.ix_manager.proofs.ToldLemmas.{tickets_are_of_their_boot}
use Rattle.ix_manager.proofs.laws.tickets_are_of_their_boot.Goals as goal

pub returns : goal.returns
returns c = tickets_are_of_their_boot
