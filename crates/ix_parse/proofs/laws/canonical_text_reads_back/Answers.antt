use Rattle.ix_parse.proofs.ReadingBack.{canonical-reads_back}
use Rattle.ix_parse.proofs.laws.canonical_text_reads_back.Goals as goal

pub returns : goal.returns
returns c = canonical-reads_back
