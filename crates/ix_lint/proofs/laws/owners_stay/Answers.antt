use Rattle.ix_lint.proofs.Kept.{owners-stay}
use Rattle.ix_lint.proofs.laws.owners_stay.Goals as goal

pub returns : goal.returns
returns c = owners-stay
