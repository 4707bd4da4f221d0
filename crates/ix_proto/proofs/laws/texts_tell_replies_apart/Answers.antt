use Rattle.ix_proto.proofs.RepliesApart.{replies_apart}
use Rattle.ix_proto.proofs.laws.texts_tell_replies_apart.Goals as goal

pub returns : goal.returns
returns c = replies_apart c.texts_tell_tickets_apart.ensures
