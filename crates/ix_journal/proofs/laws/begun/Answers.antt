use Rattle.ix_journal.proofs.WritingLaws as lemmas
use Rattle.ix_journal.proofs.laws.begun.Goals as goal

pub returns : goal.returns
returns c = lemmas.begun
