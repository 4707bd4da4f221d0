use Rattle.ix_proto.proofs.ReplyLemmas.{no_refused}
use Rattle.ix_proto.proofs.reply_read.read_refused.Goals as goal

pub returns-in_err-number : goal.returns-in_err-number
returns-in_err-number c =
    rw c.from_residual-in_err-number.ensures
    (no_refused _ _ c.in_ok-refusal.refusal.number c.in_ok-refusal.ensures c.in_err-number.ensures)
