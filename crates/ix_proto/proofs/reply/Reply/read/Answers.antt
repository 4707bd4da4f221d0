use Rattle.ix_proto.proofs.ReplyLemmas.{no_kind, read_line}
use Rattle.ix_proto.proofs.reply.Reply.read.Goals as goal

pub returns-in-None : goal.returns-in-None
returns-in-None c =
    no_kind c.args.line.now _ _ c.split_word.ensures.bytes c.split_word.ensures.plain c.in-None.ensures

pub returns-in-Some : goal.returns-in-Some
returns-in-Some c =
    read_line c.args.line.now _ _ c.in-Some.kind c.read_behind.result c.split_word.ensures.bytes c.split_word.ensures.plain
    c.in-Some.ensures c.read_behind.ensures
