use Rattle.ix_manage.proofs.SentLines.{sent_lines_tell}
use Rattle.ix_manage.proofs.laws.sent_lines_tell.Goals as goal

pub returns : goal.returns
returns c = sent_lines_tell c.texts_tell_replies_apart.ensures
