use Rattle.ix_lint.proofs.Aparts.{apart-never-comes}
use Rattle.ix_lint.proofs.laws.what_is_apart_never_comes.Goals as goal

pub returns : goal.returns
returns c = apart-never-comes
