use Rattle.ix_proto.proofs.ReplyLemmas.{no_entry}
use Rattle.ix_proto.proofs.reply_read.read_entry.Goals as goal

pub returns-in-Err : goal.returns-in-Err
returns-in-Err c = no_entry _ _ c.in_ok-place.place.number c.in_ok-place.ensures c.in-Err.ensures.no_action
