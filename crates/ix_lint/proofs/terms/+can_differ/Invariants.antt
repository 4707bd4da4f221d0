use Rattle.std.proofs.Common.{length}
use Rattle.ix_lint.proofs.terms.+can_differ.Given as goal

abbrev pub decreases-can_differ : goal.decreases-can_differ
decreases-can_differ l = length l.args.now
