-- The replies and their texts, without the byte 10 that ends a line.
use Rattle.std.specs.Prelude.{◌≡◌, ℕ, ◌<◌, ◌^◌, ◌==◌, ◌||◌, Bool, true, false, if◌then◌else◌}
use Rattle.std.specs.Prelude.{Option, Some, None, IsSome, List, [], ◌∷◌, ◌++◌, codes}
use Rattle.std.specs.Fmt.{decimal}
use Rattle.ix_values.specs.PlainAction.{text_of}
use Rattle.ix_values.specs.Texts.{IsAction}
use Rattle.ix_values.specs.Tickets.{IsTicket, ticket_text}
use Rattle.ix_proto.specs.declared.reply.Outcome.{Outcome as Became}
use Rattle.ix_proto.specs.declared.reply.Outcome.TheVariants as became
use Rattle.ix_proto.specs.declared.reply.Reply.{Reply}
use Rattle.ix_proto.specs.declared.reply.Reply.TheVariants.{Granted, Confirmed, Cancelled, Outcome}
use Rattle.ix_proto.specs.declared.reply.Reply.TheVariants.{May, Watching, Dropped, Changes, Change}
use Rattle.ix_proto.specs.declared.reply.Reply.TheVariants.{Status, Entry, Stopping, Refused}

-- the text of a code of a refusal, which ends in a number where `has_number`; there is none for any
-- other code
abbrev pub refusal_text : ℕ → Option (List ℕ)
refusal_text code =
    if code == 10 then Some (codes "line too long") else
    if code == 11 then Some (codes "word") else
    if code == 12 then Some (codes "action") else
    if code == 13 then Some (codes "number") else
    if code == 14 then Some (codes "lease") else
    if code == 15 then Some (codes "words") else
    if code == 16 then Some (codes "name") else
    if code == 20 then Some (codes "busy until") else
    if code == 21 then Some (codes "not permitted") else
    if code == 22 then Some (codes "large") else
    if code == 23 then Some (codes "full") else
    if code == 30 then Some (codes "no such ticket") else
    if code == 31 then Some (codes "expired") else
    if code == 32 then Some (codes "left out") else
    if code == 33 then Some (codes "left out") else
    if code == 40 then Some (codes "watches full") else
    if code == 41 then Some (codes "no such watch") else
    if code == 42 then Some (codes "no such entry") else
    if code == 90 then Some (codes "memory") else
    if code == 91 then Some (codes "disk") else None

-- 20 is told with the kept deadline, 22 with the node limit
abbrev pub has_number : ℕ → Bool
has_number code = (code == 20) || (code == 22)

-- the number behind a text, where there is one
abbrev pub with_number : Bool → Option (List ℕ) → ℕ → List ℕ
with_number has None number = []
with_number true (Some text) number = text ++ 32 ∷ decimal number
with_number false (Some text) number = text

abbrev pub yes_or_no : Bool → List ℕ
yes_or_no true = codes "yes"
yes_or_no false = codes "no"

abbrev pub complete_or_partial : Bool → List ℕ
complete_or_partial true = codes "complete"
complete_or_partial false = codes "partial"

-- what became of a ticket
abbrev pub outcome_text : Became → List ℕ
outcome_text (became.Confirmed place) = codes "confirmed " ++ decimal place
outcome_text became.Waiting = codes "open"
outcome_text became.Never = codes "never"

-- the text of a reply
abbrev pub reply_text : Reply → List ℕ
reply_text (Granted ticket) = codes "granted " ++ ticket_text ticket
reply_text (Confirmed count) = codes "confirmed " ++ decimal count
reply_text (Cancelled ticket) = codes "cancelled " ++ ticket_text ticket
reply_text (Outcome outcome) = codes "outcome " ++ outcome_text outcome
reply_text (May answer) = yes_or_no answer
reply_text (Watching answer) = codes "watching " ++ yes_or_no answer
reply_text Dropped = codes "dropped"
reply_text (Changes count) = codes "changes " ++ decimal count
reply_text (Change answer action) = yes_or_no answer ++ 32 ∷ text_of action
reply_text (Status complete count nodes) =
    codes "status "
    ++ (complete_or_partial complete
    ++ 32 ∷ (decimal count ++ 32 ∷ (codes "nodes " ++ decimal nodes)))
reply_text (Entry place action) = codes "entry " ++ (decimal place ++ 32 ∷ text_of action)
reply_text Stopping = codes "stopping"
reply_text (Refused code number) = codes "refused "
    ++ (decimal code ++ 32 ∷ with_number (has_number code) (refusal_text code) number)

-- the code is one of the table, and the number is 0 where its text has none
pub record IsRefusal (code number : ℕ) : Type 0 where
  pub listed : IsSome (refusal_text code)
  pub zero_else : has_number code ≡ false → number ≡ 0

-- the place of a confirmed action is at most 18446744073709551615
abbrev pub IsOutcome : Became → Type 0
IsOutcome (became.Confirmed place) = place < 2 ^ 64
IsOutcome became.Waiting = Unit {0}
IsOutcome became.Never = Unit {0}

-- the numbers are at most 18446744073709551615, or 4294967295 for the count of changes, the actions
-- are some, and a refusal can be told
abbrev pub IsReply : Reply → Type 0
IsReply (Granted ticket) = IsTicket ticket
IsReply (Confirmed count) = count < 2 ^ 64
IsReply (Cancelled ticket) = IsTicket ticket
IsReply (Outcome outcome) = IsOutcome outcome
IsReply (May answer) = Unit {0}
IsReply (Watching answer) = Unit {0}
IsReply Dropped = Unit {0}
IsReply (Changes count) = count < 2 ^ 32
IsReply (Change answer action) = IsAction action
IsReply (Status complete count nodes) = (count < 2 ^ 64) × (nodes < 2 ^ 64)
IsReply (Entry place action) = (place < 2 ^ 64) × IsAction action
IsReply Stopping = Unit {0}
IsReply (Refused code number) = (code < 2 ^ 8) × (number < 2 ^ 64) × IsRefusal code number

-- two replies with one text are the same reply
abbrev pub TextsTellRepliesApart : Type 0
TextsTellRepliesApart = (x y : Reply) → IsReply x → IsReply y → reply_text x ≡ reply_text y → x ≡ y
