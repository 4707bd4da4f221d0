use Rattle.ix_journal.proofs.PassedTexts.{passes_the_history}
use Rattle.ix_journal.proofs.laws.passes_the_history.Goals as goal

pub returns : goal.returns
returns c = passes_the_history
