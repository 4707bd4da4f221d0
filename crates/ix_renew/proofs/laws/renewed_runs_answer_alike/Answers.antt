use Rattle.ix_renew.proofs.RunsAlike.{renewed_runs_answer_alike}
use Rattle.ix_renew.proofs.laws.renewed_runs_answer_alike.Goals as goal

pub returns : goal.returns
returns c = renewed_runs_answer_alike
