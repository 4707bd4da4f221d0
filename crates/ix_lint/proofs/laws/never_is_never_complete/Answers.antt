use Rattle.ix_lint.proofs.Nevers.{never-complete}
use Rattle.ix_lint.proofs.laws.never_is_never_complete.Goals as goal

pub returns : goal.returns
returns c = never-complete
