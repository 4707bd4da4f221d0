use Rattle.ix_blocks.proofs.Runs.{looks_tell}
use Rattle.ix_blocks.proofs.laws.looks_tell_who_owns.Goals as goal

pub returns : goal.returns
returns c = looks_tell
