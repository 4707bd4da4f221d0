use Rattle.ix_manager.proofs.TableLemmas as table
use Rattle.ix_manager.proofs.laws.open_tickets_are_confirmed.Goals as goal

pub returns : goal.returns
returns c = table.open_tickets_are_confirmed
