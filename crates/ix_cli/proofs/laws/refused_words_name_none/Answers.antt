use Rattle.ix_cli.proofs.Named.{no_job}
use Rattle.ix_cli.proofs.laws.refused_words_name_none.Goals as goal

pub returns : goal.returns
returns c = no_job
