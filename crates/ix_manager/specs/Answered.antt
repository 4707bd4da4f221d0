-- What a run answered to a request, and which tickets it granted.
use Rattle.std.specs.Prelude.{◌≡◌, ℕ, List, [], ◌∷◌, ◌++◌}
use Rattle.ix_words.specs.Each.{Member}
use Rattle.ix_values.specs.declared.tickets.Ticket.{Ticket}
use Rattle.ix_lines.specs.Items.{Item, line}
use Rattle.ix_lines.specs.Words.{words_of}
use Rattle.ix_outside.specs.Contents.{GivenEvent}
use Rattle.ix_proto.specs.Requests.{PlainRequest, IsRequest, request_words}
use Rattle.ix_proto.specs.declared.reply.Reply.{Reply}
use Rattle.ix_proto.specs.declared.reply.Reply.TheVariants.{Granted}
use Rattle.ix_manager.specs.Runs.{Completes, text_behind}

-- among these items is a line of the request, and the replies to it are these
pub data AnswersAmong (asked : PlainRequest) (replies : List Reply)
    : List Item → List (List Reply) → Type 0 where
  first : {bytes : List ℕ} {items : List Item} {answers : List (List Reply)}
      → IsRequest asked → words_of bytes ≡ request_words asked
      → AnswersAmong asked replies (line bytes ∷ items) (replies ∷ answers)
  later : {item : Item} {items : List Item} {other : List Reply} {answers : List (List Reply)}
      → AnswersAmong asked replies items answers
      → AnswersAmong asked replies (item ∷ items) (other ∷ answers)

-- a run over these events, with these answers, answered the request with these replies: to an item
-- that its last event completed, or an earlier one
pub data HasAnswered (asked : PlainRequest) (replies : List Reply)
    : List GivenEvent → List (List (List Reply)) → Type 0 where
  lastly : (events : List GivenEvent) (answers : List (List (List Reply)))
      (given : GivenEvent) (completed : List Item) (last : List (List Reply))
      → Completes (text_behind given.event.conn [] events) given completed
      → AnswersAmong asked replies completed last
      → HasAnswered asked replies (events ++ given ∷ []) (answers ++ last ∷ [])
  earlier : {events : List GivenEvent} {answers : List (List (List Reply))}
      (given : GivenEvent) (last : List (List Reply))
      → HasAnswered asked replies events answers
      → HasAnswered asked replies (events ++ given ∷ []) (answers ++ last ∷ [])

-- among the answers of a run is a reply that grants the ticket
abbrev pub HasGranted : Ticket → List (List (List Reply)) → Type 0
HasGranted ticket answers = (last : List (List Reply)) × (replies : List Reply)
    × Member last answers × Member replies last × Member (Granted ticket) replies
