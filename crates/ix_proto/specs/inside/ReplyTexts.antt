-- Replies and texts as the calls that write and read them take them.
use Rattle.std.specs.Prelude.{◌≡◌, ℕ, List}
use Rattle.ix_proto.specs.declared.reply.Reply.{Reply}
use Rattle.ix_proto.specs.declared.reply.Reply.TheVariants.{Refused}
use Rattle.ix_proto.specs.Replies.{reply_text, IsRefusal, IsReply}

-- the refusal, where the reply is one, can be told
abbrev pub CanBeTold : Reply → Type 0
CanBeTold (Refused code number) = IsRefusal code number
CanBeTold _ = Unit {0}

-- the text is some reply's
pub record IsReplyText (text : List ℕ) : Type 0 where
  pub reply : Reply
  pub valid : IsReply reply
  pub same : reply_text reply ≡ text
