use Rattle.std.proofs.Common.{arith}
use Rattle.ix_values.specs.Texts.{IsAction}
use Rattle.ix_values.proofs.Slots.{each-more}
use Rattle.ix_renew.proofs.renewing.are_actions.Goals as goal

pub loop-action-preserved : goal.loop-action-preserved
loop-action-preserved c =
    let at = c.loop-action in
    let item = c.action-item in
    each-more IsAction c.args.word.now at.action-index item.result (omega arith) item.is c.name.ensures.valid at.invariant

pub returns : goal.returns
returns c k d below = c.loop-action.invariant k d (omega arith)
