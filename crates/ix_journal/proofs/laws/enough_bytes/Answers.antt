use Rattle.ix_journal.proofs.EnoughLemmas as lemmas
use Rattle.ix_journal.proofs.laws.enough_bytes.Goals as goal

pub returns : goal.returns
returns c = lemmas.enough_bytes
