-- Laws of runs: what the events that a manager takes make of a run, any cutting of a piece, and
-- what is sent.
use Rattle.std.specs.Prelude.{◌≡◌, ◌≢◌, ◌⊎◌, ◌↔◌, ℕ, ◌+◌, ◌<◌, Bool, true, false, List, [], ◌∷◌}
use Rattle.std.specs.Prelude.{◌++◌}
use Rattle.std.specs.Prelude.{length, get_or, None, Some}
use Rattle.std.specs.Io.KnownBytes.{append_known}
use Rattle.ix_lines.specs.Feeding.{held}
use Rattle.ix_outside.specs.Contents.{GivenEvent, SentBytes, Contents, Sends}
use Rattle.ix_outside.specs.Sink.{AppendsPart}
use Rattle.ix_outside.specs.declared.event.Event.{Event}
use Rattle.ix_outside.specs.declared.event.EventKind.TheVariants.{Bytes}
use Rattle.ix_store.specs.Keeping.{Keeping}
use Rattle.ix_proto.specs.declared.reply.Reply.{Reply}
use Rattle.ix_manager.specs.Machine.{MachineState}
use Rattle.ix_manager.specs.Runs.{Opening, Ending, going, Run, text_behind}
use Rattle.ix_manager.specs.Handled.{ManagerState, held_at, TakesEvent, SendsReplies, Handles}
use Rattle.ix_manager.specs.Handled.{FitsEvent, started}
use Rattle.ix_manager.specs.Wire.{SentReplies, Wire, all_replies, replies_text, run_text}

-- an event with its bytes, as a run has it
abbrev pub given_event : Event → List ℕ → GivenEvent
given_event event bytes = record { event = event; bytes = bytes }

-- A manager that took the events of a run, which goes on: its machine is in the run's last state,
-- and of each connection it holds what is unfinished of the connection's text.
pub record FollowsRun (opening : Opening) (events : List GivenEvent)
    (answers : List (List (List Reply))) (m : ManagerState) : Type 0 where
  pub run : Run opening events answers m.machine going
  pub form_is : m.form ≡ opening.form
  pub limit_is : m.limit ≡ opening.limit
  pub not_ended : m.ended ≡ false
  pub connections : length m.lines ≡ 64
  pub lines : (conn : ℕ) → conn < 64 → held_at conn m.lines ≡ held (text_behind conn [] events)

-- a manager that was just started follows the run without events
abbrev pub StartsARun : Type 0
StartsARun = (opening : Opening) (store : Keeping)
    → FollowsRun opening [] [] (started opening store)

-- where a manager follows a run, any event that it takes goes on that run, and it follows the
-- longer run as long as that goes on
abbrev pub GoesOnARun : Type 0
GoesOnARun =
    (opening : Opening) (events : List GivenEvent) (answers : List (List (List Reply)))
    (old : ManagerState) (event : Event) (bytes : List ℕ)
    (last : List (List Reply)) (new : ManagerState) (ending : Ending)
    → FollowsRun opening events answers old → FitsEvent event bytes
    → TakesEvent old event bytes last new ending
    → let longer = events ++ given_event event bytes ∷ [] in
    Run opening longer (answers ++ last ∷ []) new.machine ending
    × (ending ≡ going → FollowsRun opening longer (answers ++ last ∷ []) new)

-- what a manager takes from its start on makes a run
abbrev pub CallsMakeARun : Type 0
CallsMakeARun = StartsARun × GoesOnARun

-- bytes that came on a connection at a moment
abbrev pub piece : ℕ → ℕ → List ℕ → GivenEvent
piece conn moment bytes = given_event
    (record { conn = conn; moment = moment; kind = Bytes (length bytes) }) bytes

-- A run over two more events in place of one, with these replies to both, and later events with
-- theirs: it ends in the first and no event is later, or some of the replies are those to the
-- first, and the others those to the second.
abbrev pub RunsOverBoth : Opening → List GivenEvent → List (List (List Reply))
    → GivenEvent → GivenEvent → List (List Reply) → List GivenEvent → List (List (List Reply))
    → MachineState → Ending → Type 0
RunsOverBoth opening events answers first second replies later more s ending =
    ((later ≡ []) × (more ≡ []) × (ending ≢ going)
    × Run opening (events ++ first ∷ []) (answers ++ replies ∷ []) s ending)
    ⊎ ((one : List (List Reply)) × (two : List (List Reply)) × (replies ≡ one ++ two)
    × Run opening (events ++ first ∷ second ∷ later) (answers ++ one ∷ two ∷ more) s ending)

-- wherever in a run, a piece and the same piece cut in two, all at one moment, have the same runs:
-- the same replies in the same order, the same last state and the same ending
abbrev pub AnyCuttingGivesTheSameRun : Type 0
AnyCuttingGivesTheSameRun =
    (opening : Opening) (events : List GivenEvent) (answers : List (List (List Reply)))
    (conn moment : ℕ) (front back : List ℕ) (replies : List (List Reply))
    (later : List GivenEvent) (more : List (List (List Reply))) (s : MachineState) (ending : Ending)
    → length events ≡ length answers
    → Run opening (events ++ piece conn moment (front ++ back) ∷ later)
    (answers ++ replies ∷ more) s ending
    ↔ RunsOverBoth opening events answers (piece conn moment front) (piece conn moment back)
    replies later more s ending

-- Of replies that were sent in order: those that the sends since carry, one each, and those left
-- over, on a connection
-- that was found gone.
pub record Carries (replies : List Reply) (before after : List SentBytes) (marked : Bool) :
    Type 0 where
  pub carried : List Reply
  pub silent : List Reply
  pub all : carried ++ silent ≡ replies
  pub count : length after ≡ length before + length carried
  pub whole : (silent ≡ []) ⊎ (marked ≡ true)

-- over a site that tells its sends, sending the replies to one more event makes of them the wire of
-- the run with that
-- event, in which the new sends carry the first ones of these replies
abbrev pub WireGoesOn : Type 0
WireGoesOn =
    (start : Sends) (events : List GivenEvent) (answers : List (List (List Reply)))
    (sent : SentReplies) (s' : Sends)
    (old : ManagerState) (event : Event) (bytes : List ℕ) (last : List (List Reply))
    (new : ManagerState) (before after : Contents)
    → Wire start events answers old.marks sent
    → (goes : SendsReplies old event last new before after)
    → before.sends ≡ Some sent.sends → after.sends ≡ Some s'
    → (part : Carries (all_replies last) sent.sends.sent s'.sent goes.marked)
    × Wire start (events ++ given_event event bytes ∷ []) (answers ++ last ∷ []) new.marks
    (record { sends = s'; replies = sent.replies ++ part.carried })

-- a site that doesn't tell its sends before an event doesn't tell them after it
abbrev pub StaysUntold : Type 0
StaysUntold =
    (old : ManagerState) (event : Event) (last : List (List Reply)) (new : ManagerState)
    (before after : Contents)
    → SendsReplies old event last new before after → before.sends ≡ None → after.sends ≡ None

-- what is sent is the wire of the run, over a site that tells it; one that tells it at the end told
-- it all along
abbrev pub SentRepliesAreTheWire : Type 0
SentRepliesAreTheWire = WireGoesOn × StaysUntold

-- replies on a connection that is left unmarked stand behind the text whole; where it is left
-- marked a front of them does
abbrev pub TellsReplies : Bool → Contents → List ℕ → Contents → Type 0
TellsReplies marked before replies after =
    (marked ≡ false → after.text ≡ append_known before.text replies)
    × (marked ≡ true → AppendsPart before.text replies after.text)

-- on a connection that isn't marked the replies to an event make their text, by the mark that they
-- leave
abbrev pub RepliesAreTold : Type 0
RepliesAreTold =
    (old : ManagerState) (event : Event) (last : List (List Reply)) (new : ManagerState)
    (before after : Contents)
    (sent : SendsReplies old event last new before after)
    → get_or old.marks event.conn false ≡ false
    → TellsReplies sent.marked before (replies_text event.conn (all_replies last)) after

-- on a connection that is marked nothing is sent
abbrev pub MarkedAreSilent : Type 0
MarkedAreSilent =
    (old : ManagerState) (event : Event) (last : List (List Reply)) (new : ManagerState)
    (before after : Contents)
    (sent : SendsReplies old event last new before after) → get_or old.marks event.conn false ≡ true
    → (after ≡ before) × (sent.marked ≡ true)

-- of an event that is handled the new marks tell which mark they leave
abbrev pub HandledAreTold : Type 0
HandledAreTold =
    (old : ManagerState) (event : Event) (bytes : List ℕ) (ending : Ending) (new : ManagerState)
    (before after : Contents)
    (handled : Handles old event bytes ending new before after) → event.conn < length old.marks
    → get_or old.marks event.conn false ≡ false
    → TellsReplies (get_or new.marks event.conn false) before
    (replies_text event.conn (all_replies handled.answers)) after

-- the text of a run's replies is that of the events before the last, and behind it the text of the
-- last event's replies
abbrev pub RunTextGrows : Type 0
RunTextGrows =
    (events : List GivenEvent) (answers : List (List (List Reply))) (given : GivenEvent)
    (last : List (List Reply)) → length events ≡ length answers
    → run_text (events ++ given ∷ []) (answers ++ last ∷ [])
    ≡ run_text events answers ++ replies_text given.event.conn (all_replies last)

-- what is sent on connections that aren't marked is the text of the replies, and on others nothing
-- is sent
abbrev pub UnmarkedRepliesAreTheText : Type 0
UnmarkedRepliesAreTheText = RepliesAreTold × MarkedAreSilent × HandledAreTold × RunTextGrows
