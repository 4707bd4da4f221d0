use Rattle.ix_lint.proofs.Kept.{values-stay}
use Rattle.ix_lint.proofs.laws.values_stay.Goals as goal

pub returns : goal.returns
returns c = values-stay
