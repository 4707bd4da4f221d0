-- How the history grows along a run.
use Rattle.std.proofs.Common.{◌≡◌, ℕ, List, [], ◌∷◌, ◌++◌, append_assoc, append-nil, Some, refl, sym, ◌∙◌}
use Rattle.std.proofs.Common.{ap}
use Rattle.ix_journal.specs.History.{PlainHistory}
use Rattle.ix_expr.specs.Form.{Form}
use Rattle.ix_lines.specs.Items.{Item}
use Rattle.ix_outside.specs.Contents.{GivenEvent}
use Rattle.ix_proto.specs.Requests as request
use Rattle.ix_proto.specs.Requests.{PlainRequest}
use Rattle.ix_proto.specs.declared.reply.Reply.{Reply}
use Rattle.ix_manager.specs.Images.{with_failed}
use Rattle.ix_manager.specs.Machine.{MachineState, Step, confirmed}
use Rattle.ix_manager.specs.Runs.{Opening, Ending, ending_of, ItemStep, requested, refused}
use Rattle.ix_manager.specs.Runs.{over_long, disk_failed, Steps, none, last, more, Run, begin}
use Rattle.ix_manager.specs.Runs.{takes}

-- the second history begins with the first
abbrev pub Grows : PlainHistory → PlainHistory → Type 0
Grows old new = (rest : PlainHistory) × (old ++ rest ≡ new)

pub grows_not : (w : PlainHistory) → Grows w w
grows_not w = ([], append-nil w)

pub grows_twice : (u v w : PlainHistory) → Grows u v → Grows v w → Grows u w
grows_twice u v w first second = (
  first.0 ++ second.0,
  sym (append_assoc u first.0 second.0)
      ∙ ap (λ (t : PlainHistory). t ++ second.0) first.1 ∙ second.1,
)

step_grows : {x : Form} {limit : ℕ} {s after : MachineState} {asked : PlainRequest}
    {replies : List Reply}
    → Step x limit s asked replies after → Grows s.history after.history
step_grows (confirmed {ticket = ticket} a deadline held open_still) = ((Some ticket, a) ∷ [], refl)
step_grows _ = ([], append-nil _)

-- no request fails
pub none_failed : (asked : PlainRequest) (h : PlainHistory) → with_failed (ending_of asked) h ≡ h
none_failed request.stop h = refl
none_failed _ h = refl

item_grows : {x : Form} {limit : ℕ} {s after : MachineState} {item : Item} {replies : List Reply}
    {ending : Ending}
    → ItemStep x limit s item replies after ending
    → Grows s.history (with_failed ending after.history)
item_grows (requested asked {after = after} valid same step) =
    let grown = step_grows step in (grown.0, grown.1 ∙ sym (none_failed asked after.history))
item_grows (refused fault) = grows_not _
item_grows over_long = grows_not _
item_grows (disk_failed {ticket = ticket} {a = a} valid same held open_still) = ((Some ticket, a) ∷ [], refl)

-- the steps of an event, with the action of a confirm that failed behind the last history
pub steps_grow : {x : Form} {limit : ℕ} {s after : MachineState} {items : List Item}
    {answers : List (List Reply)} {ending : Ending}
    → Steps x limit s items answers after ending
    → Grows s.history (with_failed ending after.history)
steps_grow none = grows_not _
steps_grow (last step ends) = item_grows step
steps_grow (more {s = s} {between = between} {after = after} {ending = ending} step steps) =
    grows_twice s.history between.history (with_failed ending after.history) (item_grows step)
    (steps_grow steps)

-- the last history of a run begins with the history of its opening
pub run_grows : {opening : Opening} {events : List GivenEvent} {answers : List (List (List Reply))}
    {s : MachineState} {ending : Ending}
    → Run opening events answers s ending → Grows opening.history (with_failed ending s.history)
run_grows begin = grows_not _
run_grows {opening = opening} (takes {s = s} {after = after} {ending = ending} given completed
    replies run completes steps) =
    grows_twice opening.history s.history (with_failed ending after.history) (run_grows run)
    (steps_grow steps)
