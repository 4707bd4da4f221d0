use Rattle.ix_manager.proofs.TableLemmas as table
use Rattle.ix_manager.proofs.laws.only_some_want_memory.Goals as goal

pub returns : goal.returns
returns c = table.only_some_want_memory
