use Rattle.ix_journal.proofs.HoldsLemmas as lemmas
use Rattle.ix_journal.proofs.laws.holds_more.Goals as goal

pub returns : goal.returns
returns c = lemmas.holds_more
