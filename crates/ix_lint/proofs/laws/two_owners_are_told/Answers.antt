use Rattle.ix_lint.proofs.Sharing.{two-are-owners}
use Rattle.ix_lint.proofs.laws.two_owners_are_told.Goals as goal

pub returns : goal.returns
returns c = two-are-owners
