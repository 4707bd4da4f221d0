use Rattle.ix_proto.proofs.StripLemmas.{stripped}
use Rattle.ix_proto.proofs.reply_read.strip.Goals as goal

pub returns : goal.returns
returns c = stripped c.args.text.now c.args.front.now c.strip_prefix.result c.strip_prefix.ensures.cases
