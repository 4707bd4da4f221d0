use Rattle.ix_journal.proofs.LentTexts as lemmas
use Rattle.ix_journal.proofs.laws.lends_the_history.Goals as goal

pub returns : goal.returns
returns c = lemmas.lends_the_history
