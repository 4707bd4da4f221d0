-- Laws of what a run told, over whole runs: its tickets are of its boot, and what it told stays.
use Rattle.std.specs.Prelude.{◌≡◌, ℕ, ◌+◌, List, [], ◌∷◌, ◌++◌, length, Some}
use Rattle.ix_values.specs.PlainAction.{PlainAction}
use Rattle.ix_values.specs.declared.tickets.Ticket.{Ticket}
use Rattle.ix_journal.specs.History.{PlainHistory, actions_of}
use Rattle.ix_journal.specs.declared.entries.Renewed.{Renewed}
use Rattle.ix_outside.specs.Contents.{GivenEvent, SentBytes}
use Rattle.ix_outside.specs.Crashes.{Left}
use Rattle.ix_proto.specs.Requests as request
use Rattle.ix_proto.specs.Requests.{PlainRequest}
use Rattle.ix_proto.specs.declared.reply.Outcome.TheVariants as became
use Rattle.ix_proto.specs.declared.reply.Reply.{Reply}
use Rattle.ix_proto.specs.declared.reply.Reply.TheVariants as reply
use Rattle.ix_manager.specs.Acknowledged.{IsAcknowledged, KeepsAcknowledged}
use Rattle.ix_manager.specs.Answered.{HasAnswered, HasGranted}
use Rattle.ix_manager.specs.Images.{IsStartable, with_failed}
use Rattle.ix_manager.specs.LaterLaws.{IsEntryOf, TellsOver}
use Rattle.ix_manager.specs.Machine.{IsAbsent, MachineState, ahead_of}
use Rattle.ix_manager.specs.Runs.{Ending, Opening, Run}

-- a ticket that a run granted is of its boot
abbrev pub TicketsAreOfTheirBoot : Type 0
TicketsAreOfTheirBoot =
    (opening : Opening) (events : List GivenEvent) (answers : List (List (List Reply)))
    (last : MachineState) (ending : Ending) (ticket : Ticket)
    → Run opening events answers last ending → HasGranted ticket answers
    → ticket.boot ≡ opening.boot

-- a run told that the ticket is over
abbrev pub HasToldOver : Ticket → List GivenEvent → List (List (List Reply)) → Type 0
HasToldOver ticket events answers = (asked : PlainRequest) × (replies : List Reply)
    × TellsOver asked replies ticket × HasAnswered asked replies events answers

-- a ticket of which a run told that it is over isn't in its history, nor in what a confirm that
-- failed may leave
abbrev pub ToldTicketsStayOver : Type 0
ToldTicketsStayOver =
    (opening : Opening) (image : List ℕ) (events : List GivenEvent)
    (answers : List (List (List Reply))) (last : MachineState) (ending : Ending) (ticket : Ticket)
    → IsStartable opening image → Run opening events answers last ending
    → HasToldOver ticket events answers → IsAbsent ticket (with_failed ending last.history)

-- the history's pair of this number, counted from 1, has the ticket, where the carried ones stand
-- for this
pub record HasTicketAt (renewed : Renewed) (history : PlainHistory) (number : ℕ) (ticket : Ticket) :
    Type 0 where
  pub before : PlainHistory
  pub action : PlainAction
  pub behind : PlainHistory
  pub split : history ≡ before ++ (Some ticket, action) ∷ behind
  pub place : number ≡ ahead_of renewed + length before + 1

-- where a run told the number that a ticket was confirmed with, it is the ticket's in its history
abbrev pub ToldOutcomesStay : Type 0
ToldOutcomesStay =
    (opening : Opening) (events : List GivenEvent) (answers : List (List (List Reply)))
    (last : MachineState) (ending : Ending) (ticket : Ticket) (number : ℕ)
    → Run opening events answers last ending
    → HasAnswered (request.outcome ticket) (reply.Outcome (became.Confirmed number) ∷ []) events
    answers
    → HasTicketAt opening.renewed last.history number ticket

-- an entry that a run told is in its history
abbrev pub ToldEntriesAreKept : Type 0
ToldEntriesAreKept =
    (opening : Opening) (events : List GivenEvent) (answers : List (List (List Reply)))
    (last : MachineState) (ending : Ending) (number : ℕ) (a : PlainAction)
    → Run opening events answers last ending
    → HasAnswered (request.log number) (reply.Entry number a ∷ []) events answers
    → IsEntryOf opening.renewed (actions_of last.history) number a

-- of an entry that a run told, so that a byte of the reply was sent by then, each image keeps it
abbrev pub AcknowledgedEntriesAreKept : Type 0
AcknowledgedEntriesAreKept =
    (opening : Opening) (events : List GivenEvent) (answers : List (List (List Reply)))
    (last : MachineState) (ending : Ending) (number : ℕ) (a : PlainAction)
    (least : ℕ) (replies : List Reply) (before : List SentBytes) (left : Left)
    → Run opening events answers last ending
    → HasAnswered (request.log number) (reply.Entry number a ∷ []) events answers
    → (image : KeepsAcknowledged opening.form least
    (with_failed ending last.history) opening.renewed
    replies before left)
    → IsAcknowledged number replies image.sent
    → IsEntryOf opening.renewed (actions_of image.keeps.kept) number a

-- and so of a number that a ticket was confirmed with
abbrev pub AcknowledgedOutcomesAreKept : Type 0
AcknowledgedOutcomesAreKept =
    (opening : Opening) (events : List GivenEvent) (answers : List (List (List Reply)))
    (last : MachineState) (ending : Ending) (ticket : Ticket) (number : ℕ)
    (least : ℕ) (replies : List Reply) (before : List SentBytes) (left : Left)
    → Run opening events answers last ending
    → HasAnswered (request.outcome ticket) (reply.Outcome (became.Confirmed number) ∷ []) events
    answers
    → (image : KeepsAcknowledged opening.form least
    (with_failed ending last.history) opening.renewed
    replies before left)
    → IsAcknowledged number replies image.sent
    → HasTicketAt opening.renewed image.keeps.kept number ticket
