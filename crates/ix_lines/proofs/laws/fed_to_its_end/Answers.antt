use Rattle.ix_lines.proofs.FeedLemmas as laws
use Rattle.ix_lines.proofs.laws.fed_to_its_end.Goals as goal

pub returns : goal.returns
returns c = laws.fed_to_its_end
