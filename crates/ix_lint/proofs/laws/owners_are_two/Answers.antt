use Rattle.ix_lint.proofs.Sharing.{owners-are-two}
use Rattle.ix_lint.proofs.laws.owners_are_two.Goals as goal

pub returns : goal.returns
returns c = owners-are-two
