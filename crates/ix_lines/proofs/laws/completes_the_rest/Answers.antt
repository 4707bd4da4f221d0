use Rattle.ix_lines.proofs.FeedLemmas as laws
use Rattle.ix_lines.proofs.laws.completes_the_rest.Goals as goal

pub returns : goal.returns
returns c = laws.completes_the_rest
