use Rattle.std.proofs.Common.{arith}
use Rattle.ix_journal.proofs.RenewedLaws.{one_more}
use Rattle.ix_journal.proofs.writing.append_carried.Goals as goal

pub loop-action-preserved : goal.loop-action-preserved
loop-action-preserved c =
    one_more c.args.bytes.now.items c.loop-action.bytes.items c.append_open.new.bytes.items c.args.carried.now c.loop-action.action-index c.action-item.result
    (omega arith) c.action-item.is c.loop-action.invariant.0 c.loop-action.invariant.1
    c.in_ok-append_open.ensures.bytes c.in_ok-append_open.ensures.valid
