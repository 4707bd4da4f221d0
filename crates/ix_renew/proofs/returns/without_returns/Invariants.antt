-- A step may be made from the tree.
use Rattle.ix_renew.specs.inside.Walking.{IsSteppable}
use Rattle.ix_renew.proofs.returns.without_returns.Given as goal

abbrev pub invariant-loop-index : goal.invariant-loop-index
invariant-loop-index l = IsSteppable l.rules l.tree
