-- A reply's text as its first word and what stands reply_rest it.
use Rattle.std.specs.Prelude.{◌≡◌, ℕ, ◌<◌, ◌^◌, Option, Some, None, List, ◌∷◌, ◌++◌, codes}
use Rattle.std.specs.Fmt.{decimal}
use Rattle.ix_values.specs.PlainAction.{text_of}
use Rattle.ix_values.specs.Tickets.{ticket_text}
use Rattle.ix_proto.specs.Replies.{IsReply, IsRefusal, outcome_text, yes_or_no, complete_or_partial}
use Rattle.ix_proto.specs.Replies.{with_number, has_number, refusal_text}
use Rattle.ix_proto.specs.declared.reply.Reply.{Reply}
use Rattle.ix_proto.specs.declared.reply.Reply.TheVariants.{Granted, Confirmed, Cancelled, Outcome}
use Rattle.ix_proto.specs.declared.reply.Reply.TheVariants.{May, Watching, Dropped, Changes, Change}
use Rattle.ix_proto.specs.declared.reply.Reply.TheVariants.{Status, Entry, Stopping, Refused}
use Rattle.ix_proto.specs.declared.reply_read.Kind.{Kind}
use Rattle.ix_proto.specs.declared.reply_read.Kind.TheVariants as kind

-- the first words
abbrev pub kind_word : Kind → List ℕ
kind_word kind.Granted = codes "granted"
kind_word kind.Confirmed = codes "confirmed"
kind_word kind.Cancelled = codes "cancelled"
kind_word kind.Outcome = codes "outcome"
kind_word (kind.Answer answer) = yes_or_no answer
kind_word kind.Watching = codes "watching"
kind_word kind.Dropped = codes "dropped"
kind_word kind.Changes = codes "changes"
kind_word kind.Status = codes "status"
kind_word kind.Entry = codes "entry"
kind_word kind.Stopping = codes "stopping"
kind_word kind.Refused = codes "refused"

-- the first word of a reply
abbrev pub kind_of : Reply → Kind
kind_of (Granted ticket) = kind.Granted
kind_of (Confirmed count) = kind.Confirmed
kind_of (Cancelled ticket) = kind.Cancelled
kind_of (Outcome outcome) = kind.Outcome
kind_of (May answer) = kind.Answer answer
kind_of (Watching answer) = kind.Watching
kind_of Dropped = kind.Dropped
kind_of (Changes count) = kind.Changes
kind_of (Change answer action) = kind.Answer answer
kind_of (Status complete count nodes) = kind.Status
kind_of (Entry place action) = kind.Entry
kind_of Stopping = kind.Stopping
kind_of (Refused code number) = kind.Refused

-- `nodes`, a space and the number
abbrev pub nodes_text : ℕ → List ℕ
nodes_text nodes = codes "nodes " ++ decimal nodes

-- what stands reply_rest the first word and a space
abbrev pub reply_rest : Reply → Option (List ℕ)
reply_rest (Granted ticket) = Some (ticket_text ticket)
reply_rest (Confirmed count) = Some (decimal count)
reply_rest (Cancelled ticket) = Some (ticket_text ticket)
reply_rest (Outcome outcome) = Some (outcome_text outcome)
reply_rest (May answer) = None
reply_rest (Watching answer) = Some (yes_or_no answer)
reply_rest Dropped = None
reply_rest (Changes count) = Some (decimal count)
reply_rest (Change answer action) = Some (text_of action)
reply_rest (Status complete count nodes) =
    Some (complete_or_partial complete ++ 32 ∷ (decimal count ++ 32 ∷ nodes_text nodes))
reply_rest (Entry place action) = Some (decimal place ++ 32 ∷ text_of action)
reply_rest Stopping = None
reply_rest (Refused code number) =
    Some (decimal code ++ 32 ∷ with_number (has_number code) (refusal_text code) number)

-- a reply of this first word, with this text reply_rest it
pub record StandsBehind (kind : Kind) (rest : Option (List ℕ)) (reply : Reply) : Type 0 where
  pub valid : IsReply reply
  pub kind_is : kind_of reply ≡ kind
  pub rest_is : reply_rest reply ≡ rest

-- the text is that of the code, with the number where it has one
pub record IsRefusalBehind (code : ℕ) (text : List ℕ) (number : ℕ) : Type 0 where
  pub fits : number < 2 ^ 64
  pub told : IsRefusal code number
  pub same : text ≡ with_number (has_number code) (refusal_text code) number
