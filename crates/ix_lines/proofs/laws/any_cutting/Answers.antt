use Rattle.ix_lines.proofs.FeedLemmas as laws
use Rattle.ix_lines.proofs.laws.any_cutting.Goals as goal

pub returns : goal.returns
returns c = laws.any_cutting
