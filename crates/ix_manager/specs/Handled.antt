-- A manager as contracts see it, and what one event makes of it.
use Rattle.std.specs.Prelude.{◌≡◌, ℕ, ◌<◌, ◌≤◌, Bool, true, false, List, [], length, get_or, set}
use Rattle.std.specs.Prelude.{replicate}
use Rattle.ix_expr.specs.Form.{Form}
use Rattle.ix_lines.specs.Items.{Item}
use Rattle.ix_lines.specs.Feeding.{UnfinishedLine, unfinished, completes, holds_after}
use Rattle.ix_outside.specs.Contents.{Contents, SendsWhole, SendsPart}
use Rattle.ix_outside.specs.declared.event.Event.{Event}
use Rattle.ix_outside.specs.declared.event.EventKind.{EventKind}
use Rattle.ix_outside.specs.declared.event.EventKind.TheVariants.{Bytes, Closed, End}
use Rattle.ix_store.specs.Keeping.{Keeping}
use Rattle.ix_proto.specs.declared.reply.Reply.{Reply}
use Rattle.ix_manager.specs.Machine.{MachineState, start_of}
use Rattle.ix_manager.specs.Runs.{Opening, Ending, going, Steps, raised}
use Rattle.ix_manager.specs.Wire.{SendsInOrder, reply_line, all_replies, marks_after, unmarked}

-- the expression, the limit of Size, the machine's state, the journal's store, and of each
-- connection the unfinished line and whether it is marked as gone; whether the run ended
pub record ManagerState : Type 0 where
  pub form : Form
  pub limit : ℕ
  pub machine : MachineState
  pub store : Keeping
  pub lines : List UnfinishedLine
  pub marks : List Bool
  pub ended : Bool

-- the items that an event completes behind what is held of its connection's text
abbrev pub completed_by : EventKind → UnfinishedLine → List ℕ → List Item
completed_by (Bytes n) held bytes = completes held bytes
completed_by Closed held bytes = []
completed_by End held bytes = []

-- what is held after it
abbrev pub held_after : EventKind → UnfinishedLine → List ℕ → UnfinishedLine
held_after (Bytes n) held bytes = holds_after held bytes
held_after Closed held bytes = unfinished []
held_after End held bytes = held

-- what is held of a connection's text
abbrev pub held_at : ℕ → List UnfinishedLine → UnfinishedLine
held_at conn lines = get_or lines conn (unfinished [])

-- the run ended
abbrev pub has_ended : Ending → Bool
has_ended going = false
has_ended _ = true

-- an event is taken, with the replies to each item that it completes
pub record TakesEvent (old : ManagerState) (event : Event) (bytes : List ℕ)
    (answers : List (List Reply)) (new : ManagerState) (ending : Ending) : Type 0 where
  pub steps : Steps old.form old.limit (raised event.moment old.machine)
      (completed_by event.kind (held_at event.conn old.lines) bytes) answers new.machine ending
  pub lines : ending ≡ going
      → new.lines
      ≡ set old.lines event.conn (held_after event.kind (held_at event.conn old.lines) bytes)
  pub ended : new.ended ≡ has_ended ending
  pub form : new.form ≡ old.form
  pub limit : new.limit ≡ old.limit

-- its replies are sent on its connection, whose mark is as they left it
pub record SendsReplies (old : ManagerState) (event : Event) (answers : List (List Reply))
    (new : ManagerState) (before after : Contents) : Type 0 where
  pub marked : Bool
  pub sends : SendsInOrder (λ reply. SendsWhole event.conn (reply_line reply))
      (λ reply. SendsPart event.conn (reply_line reply))
      (all_replies answers) (get_or old.marks event.conn false) before marked after
  pub marks : new.marks ≡ marks_after event.kind event.conn marked old.marks

-- an event is taken by the machine, and its replies are sent
pub record Handles (old : ManagerState) (event : Event) (bytes : List ℕ) (ending : Ending)
    (new : ManagerState) (before after : Contents) : Type 0 where
  pub answers : List (List Reply)
  pub takes : TakesEvent old event bytes answers new ending
  pub sends : SendsReplies old event answers new before after

-- an event of so many bytes, at most 4096, has them, and any other has none
abbrev pub KindHas : EventKind → List ℕ → Type 0
KindHas (Bytes n) bytes = (length bytes ≡ n) × (n ≤ 4096)
KindHas Closed bytes = bytes ≡ []
KindHas End bytes = bytes ≡ []

-- an event of a connection from 0 to 63, with its bytes
abbrev pub FitsEvent : Event → List ℕ → Type 0
FitsEvent event bytes = (event.conn < 64) × KindHas event.kind bytes

-- a manager that was just started, over this store
abbrev pub started : Opening → Keeping → ManagerState
started opening store = record {
  form = opening.form;
  limit = opening.limit;
  machine = start_of opening.history opening.renewed opening.boot;
  store = store;
  lines = replicate 64 (unfinished []);
  marks = unmarked;
  ended = false;
}
