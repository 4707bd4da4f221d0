use Rattle.ix_journal.proofs.OutcomeLaws as lemmas
use Rattle.ix_journal.proofs.laws.one_number.Goals as goal

pub returns : goal.returns
returns c = lemmas.one_number
