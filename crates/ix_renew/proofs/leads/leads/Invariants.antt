-- The tree is that of the actions so far, each of which is allowed.
use Rattle.ix_renew.proofs.Tested.{HasTested}
use Rattle.ix_renew.proofs.leads.leads.Given as goal

abbrev pub invariant-loop-action : goal.invariant-loop-action
invariant-loop-action l = HasTested l.rules l.word l.action-index l.tree
