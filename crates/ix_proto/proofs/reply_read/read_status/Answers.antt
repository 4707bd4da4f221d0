use Rattle.ix_proto.proofs.ReplyLemmas.{no_status}
use Rattle.ix_proto.proofs.reply_read.read_status.Goals as goal

pub returns-in_err-nodes : goal.returns-in_err-nodes
returns-in_err-nodes c =
    rw c.from_residual-in_err-nodes.ensures
    (no_status _ _ _ c.in_ok-complete.complete c.in_ok-length.length.number
    c.in_ok-complete.ensures c.in_ok-length.ensures c.in_err-nodes.ensures)
