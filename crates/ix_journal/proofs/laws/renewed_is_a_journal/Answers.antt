use Rattle.ix_journal.proofs.RenewedLaws as lemmas
use Rattle.ix_journal.proofs.laws.renewed_is_a_journal.Goals as goal

pub returns : goal.returns
returns c = lemmas.renewed_is_a_journal
