use Rattle.ix_generate.proofs.Apart.{apart}
use Rattle.ix_generate.proofs.laws.actions_tell_asks_apart.Goals as goal

pub returns : goal.returns
returns c = apart
