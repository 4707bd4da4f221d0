use Rattle.ix_manager.proofs.StartTickets.{over_tickets_stay_over}
use Rattle.ix_manager.proofs.laws.over_tickets_stay_over.Goals as goal

pub returns : goal.returns
returns c = over_tickets_stay_over
