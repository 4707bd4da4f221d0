use Rattle.ix_journal.proofs.SlideLaws.{pieces_do_not_matter}
use Rattle.ix_journal.proofs.laws.pieces_do_not_matter.Goals as goal

pub returns : goal.returns
returns c = pieces_do_not_matter
