use Rattle.ix_parse.proofs.FewLevels.{read-reads_back}
use Rattle.ix_parse.proofs.laws.what_was_read_reads_back.Goals as goal

pub returns : goal.returns
returns c = read-reads_back
