use Rattle.ix_journal.proofs.HeaderFronts.{header_found}
use Rattle.ix_journal.proofs.header.header_text.Goals as goal

pub returns : goal.returns
returns c = header_found _ _ (c.has_magic.ensures.0 c.if-not-has_magic.false) c.whole_text.ensures
