use Rattle.ix_journal.proofs.WritingLaws as lemmas
use Rattle.ix_journal.proofs.laws.gate_is_near.Goals as goal

pub returns : goal.returns
returns c = lemmas.gate_is_near
