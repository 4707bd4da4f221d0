-- Runs of the protocol machine over the events of all connections.
use Rattle.std.specs.Prelude.{◌≡◌, ◌≢◌, ℕ, ◌==◌, ◌<◌, max, List, [], ◌∷◌, ◌++◌, if◌then◌else◌}
use Rattle.std.specs.Prelude.{Some}
use Rattle.ix_values.specs.PlainAction.{PlainAction}
use Rattle.ix_values.specs.declared.tickets.Ticket.{Ticket}
use Rattle.ix_journal.specs.History.{PlainHistory, Spent}
use Rattle.ix_journal.specs.declared.entries.Renewed.{Renewed}
use Rattle.ix_expr.specs.Form.{Form}
use Rattle.ix_lines.specs.Items.{Item, line, too_long, items}
use Rattle.ix_outside.specs.Contents.{GivenEvent}
use Rattle.ix_outside.specs.declared.event.EventKind.{EventKind}
use Rattle.ix_outside.specs.declared.event.EventKind.TheVariants.{Bytes, Closed, End}
use Rattle.ix_proto.specs.Requests as request
use Rattle.ix_proto.specs.Requests.{PlainRequest, IsRequest, request_words}
use Rattle.ix_proto.specs.RequestFaults.{IsRequestFault}
use Rattle.ix_lines.specs.Words.{words_of}
use Rattle.ix_lease.specs.declared.Slot.TheVariants as slot
use Rattle.ix_proto.specs.declared.reply.Reply.{Reply}
use Rattle.ix_proto.specs.declared.reply.Reply.TheVariants as reply
use Rattle.ix_manager.specs.Refusals.{disk}
use Rattle.ix_manager.specs.Machine.{MachineState, Step, start_of}

-- what a run starts from: the expression, the limit of Size, the history, what its carried actions
-- stand for, and the boot
pub record Opening : Type 0 where
  pub form : Form
  pub limit : ℕ
  pub history : PlainHistory
  pub renewed : Renewed
  pub boot : ℕ

-- the opening of an expression, a limit, a history, what its carried actions stand for, and a boot
abbrev pub opening_of : Form → ℕ → PlainHistory → Renewed → ℕ → Opening
opening_of x limit history renewed boot =
    record { form = x; limit = limit; history = history; renewed = renewed; boot = boot }

-- whether the run goes on, or ended: by `stop`, or by a confirm that failed, with its ticket and
-- its action
pub data Ending : Type 0 where
  going : Ending
  stopped : Ending
  failed : Spent → Ending

-- `stop` ends the run
abbrev pub ending_of : PlainRequest → Ending
ending_of request.stop = stopped
ending_of _ = going

-- The replies to an item of a connection, the state after it, and whether the run goes on. A line
-- that is no request and one that is too long are refused, and nothing else changes. Where the disk
-- fails, the confirm of the open reservation is refused in place of its step: nothing else changes,
-- and the run ends.
pub data ItemStep (x : Form) (limit : ℕ) (s : MachineState)
    : Item → List Reply → MachineState → Ending → Type 0 where
  requested : {bytes : List ℕ}
      (request : PlainRequest) {replies : List Reply} {after : MachineState}
      → IsRequest request → words_of bytes ≡ request_words request
      → Step x limit s request replies after
      → ItemStep x limit s (line bytes) replies after (ending_of request)
  refused : {bytes : List ℕ} {code : ℕ}
      → IsRequestFault (words_of bytes) code
      → ItemStep x limit s (line bytes) (reply.Refused code 0 ∷ []) s going
  over_long : ItemStep x limit s too_long (reply.Refused 10 0 ∷ []) s going
  disk_failed : {bytes : List ℕ} {ticket : Ticket} {deadline : ℕ} {a : PlainAction}
      → IsRequest (request.confirm ticket) → words_of bytes ≡ request_words (request.confirm ticket)
      → s.slot ≡ slot.Held ticket a deadline → s.moment < deadline
      → ItemStep x limit s (line bytes) (disk ∷ []) s (failed (Some ticket, a))

-- items in order, each one step, with the replies to each; no item follows one that ends the run
pub data Steps (x : Form) (limit : ℕ)
    : MachineState → List Item → List (List Reply) → MachineState → Ending → Type 0 where
  none : {s : MachineState} → Steps x limit s [] [] s going
  last : {s after : MachineState} {item : Item} {others : List Item} {replies : List Reply}
      {ending : Ending}
      → ItemStep x limit s item replies after ending → ending ≢ going
      → Steps x limit s (item ∷ others) (replies ∷ []) after ending
  more : {s between after : MachineState} {item : Item} {others : List Item} {replies : List Reply}
      {answers : List (List Reply)} {ending : Ending}
      → ItemStep x limit s item replies between going
      → Steps x limit between others answers after ending
      → Steps x limit s (item ∷ others) (replies ∷ answers) after ending

-- the moment is the event's where that is greater
abbrev pub raised : ℕ → MachineState → MachineState
raised moment s = record s { moment = max s.moment moment }

-- a connection's text with what an event brings: bytes behind it, or nothing of it is left
abbrev pub with_piece : EventKind → List ℕ → List ℕ → List ℕ
with_piece (Bytes n) text bytes = text ++ bytes
with_piece Closed text bytes = []
with_piece End text bytes = text

-- what a connection's pieces make since it was closed last, when text was there before
abbrev pub text_behind : ℕ → List ℕ → List GivenEvent → List ℕ
text_behind conn text [] = text
text_behind conn text (given ∷ events) =
    text_behind conn
    (if given.event.conn == conn then with_piece given.event.kind text given.bytes else text)
    events

-- the items that an event completes: those of the connection's text with its bytes, less those of
-- the text before it
pub record Completes (text : List ℕ) (given : GivenEvent) (completed : List Item) : Type 0 where
  pub items_are : items (text ++ given.bytes) ≡ items text ++ completed

-- A run of the machine from an opening, over events in order, with the replies to each item that
-- each event completes, the last state, and whether it goes on. No event is taken after its end.
pub data Run (opening : Opening)
    : List GivenEvent → List (List (List Reply)) → MachineState → Ending → Type 0 where
  begin : Run opening [] [] (start_of opening.history opening.renewed opening.boot) going
  takes : {events : List GivenEvent} {answers : List (List (List Reply))} {s after : MachineState}
      {ending : Ending}
      (given : GivenEvent) (completed : List Item) (last : List (List Reply))
      → Run opening events answers s going
      → Completes (text_behind given.event.conn [] events) given completed
      → Steps opening.form opening.limit (raised given.event.moment s) completed last after ending
      → Run opening (events ++ given ∷ []) (answers ++ last ∷ []) after ending
