use Rattle.ix_journal.proofs.WritingLaws as lemmas
use Rattle.ix_journal.proofs.laws.ignores_the_rest.Goals as goal

pub returns : goal.returns
returns c = lemmas.ignores_the_rest
