use Rattle.ix_blocks.proofs.Runs.{answered, settled_files}
use Rattle.ix_blocks.proofs.laws.what_was_answered_is_written.Goals as goal

pub returns-clause-written : goal.returns-clause-written
returns-clause-written c = answered

pub returns-clause-file : goal.returns-clause-file
returns-clause-file c = settled_files
