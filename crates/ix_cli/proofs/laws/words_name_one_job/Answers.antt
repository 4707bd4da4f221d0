use Rattle.ix_cli.proofs.Named.{one_job}
use Rattle.ix_cli.proofs.laws.words_name_one_job.Goals as goal

pub returns : goal.returns
returns c = one_job
