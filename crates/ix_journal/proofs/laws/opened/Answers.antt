use Rattle.ix_journal.proofs.WritingLaws as lemmas
use Rattle.ix_journal.proofs.laws.opened.Goals as goal

pub returns : goal.returns
returns c = lemmas.opened
