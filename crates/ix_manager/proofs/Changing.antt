-- What a step makes of the history, the slot and the tickets.
use Rattle.std.proofs.Common.{◌≡◌, ◌∙◌, ℕ, ◌+◌, ◌<◌, List, [], ◌∷◌, ◌++◌, Some, refl}
use Rattle.ix_values.specs.PlainAction.{PlainAction}
use Rattle.ix_values.specs.declared.tickets.Ticket.{Ticket}
use Rattle.ix_expr.specs.Form.{Form}
use Rattle.ix_lease.specs.declared.Slot.TheVariants.{Free, Held}
use Rattle.ix_lines.specs.Items.{Item}
use Rattle.ix_proto.specs.Requests.{PlainRequest}
use Rattle.ix_proto.specs.declared.reply.Reply.{Reply}
use Rattle.ix_manager.specs.Machine.{MachineState, Step, next_ticket, not_permitted, full, large, granted, ask_memory, confirmed, cancelled}
use Rattle.ix_manager.specs.Runs.{Ending, ItemStep, Steps, requested, none, last, more}

-- what an item's step makes of a state
pub data Changes (s u : MachineState) : Type 0 where
  keeps : u.history ≡ s.history → u.slot ≡ s.slot → u.boot ≡ s.boot → u.number ≡ s.number → u.moment ≡ s.moment → Changes s u
  empties : u.history ≡ s.history → u.slot ≡ Free → u.boot ≡ s.boot → u.number ≡ s.number → u.moment ≡ s.moment → Changes s u
  grants : (a : PlainAction) (deadline : ℕ) → u.history ≡ s.history → u.slot ≡ Held (next_ticket s) a deadline → u.boot ≡ s.boot
      → u.number ≡ s.number + 1 → u.moment ≡ s.moment → Changes s u
  stores : (ticket : Ticket) (a : PlainAction) (deadline : ℕ) → s.slot ≡ Held ticket a deadline → s.moment < deadline
      → u.history ≡ s.history ++ (Some ticket, a) ∷ [] → u.slot ≡ Free → u.boot ≡ s.boot → u.number ≡ s.number → u.moment ≡ s.moment → Changes s u

pub step_changes : {x : Form} {limit : ℕ} {s after : MachineState} {asked : PlainRequest} {replies : List Reply}
    → Step x limit s asked replies after → Changes s after
step_changes (not_permitted _ _) = empties refl refl refl refl refl
step_changes (full _ _ _) = empties refl refl refl refl refl
step_changes (large _ _ _ _) = empties refl refl refl refl refl
step_changes (ask_memory _ _ _) = empties refl refl refl refl refl
step_changes (cancelled _ _ _ _) = empties refl refl refl refl refl
step_changes (granted {a = a} _ _) = grants a _ refl refl refl refl refl
step_changes (confirmed {ticket = ticket} a deadline held before) = stores ticket a deadline held before refl refl refl refl refl
step_changes _ = keeps refl refl refl refl refl

pub item_changes : {x : Form} {limit : ℕ} {s after : MachineState} {it : Item} {replies : List Reply} {ending : Ending}
    → ItemStep x limit s it replies after ending → Changes s after
item_changes (requested asked valid words step) = step_changes step
item_changes _ = keeps refl refl refl refl refl

-- what the carried actions stand for stays
pub step_renewed : {x : Form} {limit : ℕ} {s after : MachineState} {asked : PlainRequest} {replies : List Reply}
    → Step x limit s asked replies after → after.renewed ≡ s.renewed
step_renewed (granted _ _) = refl
step_renewed _ = refl

pub item_renewed : {x : Form} {limit : ℕ} {s after : MachineState} {it : Item} {replies : List Reply} {ending : Ending}
    → ItemStep x limit s it replies after ending → after.renewed ≡ s.renewed
item_renewed (requested asked valid words step) = step_renewed step
item_renewed _ = refl

pub steps_renewed : {x : Form} {limit : ℕ} {s after : MachineState} {its : List Item} {answers : List (List Reply)} {ending : Ending}
    → Steps x limit s its answers after ending → after.renewed ≡ s.renewed
steps_renewed none = refl
steps_renewed (last step ends) = item_renewed step
steps_renewed (more step steps) = steps_renewed steps ∙ item_renewed step
