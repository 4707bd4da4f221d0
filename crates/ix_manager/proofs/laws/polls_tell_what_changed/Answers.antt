use Rattle.ix_manager.proofs.TableLemmas as table
use Rattle.ix_manager.proofs.laws.polls_tell_what_changed.Goals as goal

pub returns : goal.returns
returns c = table.polls_tell_what_changed
