use Rattle.ix_lines.proofs.OneCutLemmas as laws
use Rattle.ix_lines.proofs.laws.cut_at_each_end.Goals as goal

pub returns : goal.returns
returns c = laws.cut_at_each_end
