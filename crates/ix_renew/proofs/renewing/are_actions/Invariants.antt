use Rattle.std.proofs.Common.{ℕ, ◌<◌, get_or}
use Rattle.ix_values.specs.PlainAction.{PlainAction}
use Rattle.ix_values.specs.Texts.{IsAction}
use Rattle.ix_renew.proofs.renewing.are_actions.Given as goal

abbrev pub invariant-loop-action : goal.invariant-loop-action
invariant-loop-action l = (k : ℕ) (d : PlainAction) → k < l.action-index → IsAction (get_or l.word k d)
