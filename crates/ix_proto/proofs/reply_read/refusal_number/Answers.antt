use Rattle.ix_proto.proofs.ReplyLemmas.{no_refusal}
use Rattle.ix_proto.proofs.reply_read.refusal_number.Goals as goal

pub returns-in_err-rest : goal.returns-in_err-rest
returns-in_err-rest c =
    rw c.from_residual-in_err-rest.ensures
    (no_refusal c.args.code c.args.text.now _ c.in_ok-refusal_text.ensures.text c.in_err-rest.ensures)
