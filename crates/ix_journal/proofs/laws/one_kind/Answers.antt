use Rattle.ix_journal.proofs.KindLaws as lemmas
use Rattle.ix_journal.proofs.laws.one_kind.Goals as goal

pub returns : goal.returns
returns c = lemmas.one_kind
