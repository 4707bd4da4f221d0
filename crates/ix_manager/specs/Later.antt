-- The states that come later: in a run, and in the runs from what a crash of it leaves.
use Rattle.std.specs.Prelude.{◌≡◌, ◌<◌, ℕ, ◌+◌, [], ◌∷◌, ◌++◌, List, Some}
use Rattle.ix_values.specs.PlainAction.{PlainAction}
use Rattle.ix_values.specs.declared.tickets.Ticket.{Ticket}
use Rattle.ix_journal.specs.History.{PlainHistory}
use Rattle.ix_expr.specs.Form.{Form}
use Rattle.ix_lease.specs.declared.Slot.TheVariants.{Held}
use Rattle.ix_lines.specs.Items.{Item}
use Rattle.ix_proto.specs.declared.reply.Reply.{Reply}
use Rattle.ix_manager.specs.Machine.{MachineState, start_of}
use Rattle.ix_manager.specs.Runs.{Ending, ItemStep, raised}

-- what a crash in this state may leave: the history; or, while a confirm is being kept, the history
-- with the open reservation's ticket and action behind it
pub data MayKeep (s : MachineState) : PlainHistory → Type 0 where
  whole : MayKeep s s.history
  confirming : {ticket : Ticket} {a : PlainAction} {deadline : ℕ}
      → s.slot ≡ Held ticket a deadline → s.moment < deadline
      → MayKeep s (s.history ++ (Some ticket, a) ∷ [])

-- A state, and one that comes later: the moment rises, an item is answered, under whatever limit,
-- or a crash ends the run and the next boot starts from what it left.
pub data Later (x : Form) : MachineState → MachineState → Type 0 where
  stays : {s : MachineState} → Later x s s
  rises : {s later : MachineState} (moment : ℕ) → Later x (raised moment s) later → Later x s later
  answered : {s between later : MachineState} {limit : ℕ} {item : Item} {replies : List Reply}
      {ending : Ending}
      → ItemStep x limit s item replies between ending → Later x between later → Later x s later
  restarts : {s later : MachineState} {kept : PlainHistory}
      → MayKeep s kept → Later x (start_of kept s.renewed (s.boot + 1)) later → Later x s later
