-- The history of a run is one that followers follow.
use Rattle.std.proofs.Common.{◌≡◌, ℕ, ◌<◌, ◌≤◌, List, [], ◌∷◌, ◌++◌, length, take, Some, append_assoc, append-nil, refl, sym, ◌∙◌, ap, subst, arith}
use Rattle.std.proofs.Math.Seq.{take-append_seam}
use Rattle.std.proofs.lemmas.List.{length-append, length-map, map-append}
use Rattle.ix_values.specs.PlainAction.{PlainAction, Word}
use Rattle.ix_values.specs.declared.tickets.Ticket.{Ticket}
use Rattle.ix_journal.specs.History.{PlainHistory, Spent, actions_of}
use Rattle.ix_journal.specs.Recovery.{Recovers}
use Rattle.ix_expr.specs.Form.{Form}
use Rattle.ix_engine.specs.Allowed.{IsAllowed}
use Rattle.ix_lease.specs.declared.Slot.TheVariants.{Free, Held}
use Rattle.ix_lines.specs.Items.{Item}
use Rattle.ix_outside.specs.Contents.{GivenEvent}
use Rattle.ix_proto.specs.Requests.{PlainRequest}
use Rattle.ix_proto.specs.declared.reply.Reply.{Reply}
use Rattle.ix_manager.specs.Images.{EachPrefixIsWithin, IsWithin, with_failed}
use Rattle.ix_manager.specs.Machine as machine
use Rattle.ix_manager.specs.Machine.{MachineState, Step}
use Rattle.ix_manager.specs.Runs as runs
use Rattle.ix_manager.specs.Runs.{Ending, ItemStep, Opening, Run, Steps, failed, going, stopped}
use Rattle.ix_manager.proofs.RecoverLemmas.{few_kept}
use Rattle.ix_manager.proofs.SlotLemmas.{free_holds}
use Rattle.ix_manager.proofs.WithinLemmas.{runs_stay_within}
use Rattle.ix_manage.specs.Managed.{HistoriesAreManaged}

-- the history has room for the reserved action
record HasBootRoom (s : MachineState) : Type 0 where
  pub few : length s.history ≤ 1000000
  pub held : (ticket : Ticket) (a : PlainAction) (deadline : ℕ) → s.slot ≡ Held ticket a deadline → length s.history < 1000000

free_room : (s : MachineState) → length s.history ≤ 1000000 → s.slot ≡ Free → HasBootRoom s
free_room s few free = record { few = few; held = λ ticket a deadline is. free_holds ticket a deadline (sym free ∙ is) }

step_room : {x : Form} {limit : ℕ} {s after : MachineState} {asked : PlainRequest} {replies : List Reply}
    → Step x limit s asked replies after → HasBootRoom s → HasBootRoom after
step_room {s = s} (machine.not_permitted shut isnt) room = free_room (record s { slot = Free }) room.few refl
step_room {s = s} (machine.full shut is count) room = free_room (record s { slot = Free }) room.few refl
step_room {s = s} (machine.large shut is free above) room = free_room (record s { slot = Free }) room.few refl
step_room {s = s} (machine.ask_memory shut is free) room = free_room (record s { slot = Free }) room.few refl
step_room {s = s} (machine.cancelled a deadline held before) room = free_room (record s { slot = Free }) room.few refl
step_room {s = s} (machine.granted shut allowed) room = record {
  few = room.few;
  held = λ ticket a deadline is.
      let free = allowed.room in let long = length-map s.history (λ (spent : Spent). spent.1) in omega (arith, free, long);
}
step_room {s = s} (machine.confirmed {ticket = ticket} a deadline held before) room =
    free_room (record s { history = s.history ++ (Some ticket, a) ∷ []; slot = Free })
    (let free = room.held ticket a deadline held in
    let longer = length-append s.history ((Some ticket, a) ∷ []) in omega (arith, free, longer)) refl
step_room _ room = record { few = room.few; held = room.held }

item_room : {x : Form} {limit : ℕ} {s after : MachineState} {it : Item} {replies : List Reply} {ending : Ending}
    → ItemStep x limit s it replies after ending → HasBootRoom s → HasBootRoom after
item_room (runs.requested asked valid words step) room = step_room step room
item_room _ room = room

steps_room : {x : Form} {limit : ℕ} {s after : MachineState} {its : List Item} {answers : List (List Reply)} {ending : Ending}
    → Steps x limit s its answers after ending → HasBootRoom s → HasBootRoom after
steps_room runs.none room = room
steps_room (runs.last step ends) room = item_room step room
steps_room (runs.more step steps) room = steps_room steps (item_room step room)

run_room : {opening : Opening} {events : List GivenEvent} {answers : List (List (List Reply))} {final : MachineState} {ending : Ending}
    → Run opening events answers final ending → length opening.history ≤ 1000000 → HasBootRoom final
run_room runs.begin few = free_room _ few refl
run_room (runs.takes given completed told run completes steps) few =
    let room = run_room run few in steps_room steps (record { few = room.few; held = room.held })

few_recovered : (image : List ℕ) (history : PlainHistory) → Recovers image history → length history ≤ 1000000
few_recovered image history is =
    let few = (few_kept image is.entries is.keeps).actions in let pairs = ap length is.pairs in omega (arith, few, pairs)

-- the actions of a history begin those of it with a confirm that failed
failed_front : (ending : Ending) (history : PlainHistory) → (rest : Word) × (actions_of (with_failed ending history) ≡ actions_of history ++ rest)
failed_front going history = ([], sym (append-nil (actions_of history)))
failed_front stopped history = ([], sym (append-nil (actions_of history)))
failed_front (failed spent) history = (spent.1 ∷ [], map-append (λ (s : Spent). s.1) history (spent ∷ []))

-- a word whose prefixes are within the limit, with room, is one whose actions are allowed
allowed_in : (x : Form) (limit : ℕ) (all before behind : Word) (a : PlainAction) → EachPrefixIsWithin x limit all
    → all ≡ (before ++ a ∷ []) ++ behind → length before < 1000000 → IsAllowed x limit before a
allowed_in x limit all before behind a each is room =
    let front = before ++ a ∷ [] in
    let same : take (length front) all ≡ front = ap (λ w. take (length front) w) is ∙ take-append_seam front behind in
    let within = subst (IsWithin x limit) same (each (length front)) in
    record { permitted = within.partial; room = room; within = within.size }

pub histories_are_managed : HistoriesAreManaged
histories_are_managed opening image events answers final ending starts run = λ before a behind split.
    let each = runs_stay_within opening events answers final ending starts.within run in
    let front = failed_front ending final.history in
    let room = run_room run (few_recovered image opening.history starts.recovers) in
    let few = room.few in
    let actions = length-map final.history (λ (spent : Spent). spent.1) in
    let long = ap length split in
    let parts = length-append before (a ∷ behind) in
    allowed_in opening.form opening.limit (actions_of (with_failed ending final.history)) before (behind ++ front.0) a each
    (front.1 ∙ ap (λ (w : Word). w ++ front.0) split ∙ append_assoc before (a ∷ behind) front.0
    ∙ sym (append_assoc before (a ∷ []) (behind ++ front.0)))
    (omega (arith, few, actions, long, parts))
