-- Steps that leave the history, and what a step makes of the reservation.
use Rattle.std.proofs.Common.{◌≡◌, ℕ, ◌+◌, ◌≤◌, List, refl, ◌∙◌, ap, arith, inl, inr}
use Rattle.ix_expr.specs.Form.{Form}
use Rattle.ix_proto.specs.Requests.{PlainRequest, confirm}
use Rattle.ix_proto.specs.declared.reply.Reply.{Reply}
use Rattle.ix_manager.specs.declared.machine.Answer.{Answer}
use Rattle.ix_manager.specs.declared.machine.Answer.TheVariants.{One, Poll, Confirm, Stop}
use Rattle.ix_manager.specs.Machine.{MachineState, Step, confirmed}
use Rattle.ix_manager.specs.inside.Core.{Core, TellsPoll}
use Rattle.ix_manager.specs.inside.Does.{Does, PollAnswers, MayReserve}
use Rattle.ix_proto.specs.Requests as request
use Rattle.ix_manager.proofs.Changing.{Changes, step_changes, step_renewed, keeps, empties, grants, stores}

-- no confirm
abbrev pub IsNoConfirm : PlainRequest → Type 0
IsNoConfirm (confirm ticket) = ⊥
IsNoConfirm _ = Unit {0}

step_history : {x : Form} {limit : ℕ} {s after : MachineState} {asked : PlainRequest} {replies : List Reply}
    → Step x limit s asked replies after → IsNoConfirm asked → after.history ≡ s.history
step_history (confirmed a deadline held within) none = absurd none
step_history _ none = refl

-- a step may reserve the next ticket
pub step_reserves : {x : Form} {limit : ℕ} {s after : MachineState} {asked : PlainRequest} {replies : List Reply}
    → Step x limit s asked replies after → MayReserve s after
step_reserves step = reserved (step_changes step) (step_renewed step)
  where
    reserved : {s after : MachineState} → Changes s after → after.renewed ≡ s.renewed → MayReserve s after
    reserved (keeps history slot boot number moment) renewed =
        record { renewed = renewed; boot = boot; slot = inl (slot, number) }
    reserved (empties history slot boot number moment) renewed =
        record { renewed = renewed; boot = boot; slot = inr (inl (slot, number)) }
    reserved (grants a deadline history slot boot number moment) renewed =
        record { renewed = renewed; boot = boot; slot = inr (inr (a, deadline, slot, number)) }
    reserved (stores ticket a deadline held within history slot boot number moment) renewed =
        record { renewed = renewed; boot = boot; slot = inr (inl (slot, number)) }

-- the next number rises by one at most
pub number_rises : {s after : MachineState} → MayReserve s after → after.number ≤ s.number + 1
number_rises {s = s} {after = after} reserves = elim reserves.slot [
  | inl stays ↦ let same = stays.1 in omega (arith, same)
  | inr (inl free) ↦ let same = free.1 in omega (arith, same)
  | inr (inr next) ↦ let more = next.3 in omega (arith, more)
]

-- where the state stays, nothing is reserved
stays_reserves : {s after : MachineState} → after ≡ s → MayReserve s after
stays_reserves {s = s} same = record {
  renewed = ap (λ (t : MachineState). t.renewed) same;
  boot = ap (λ (t : MachineState). t.boot) same;
  slot = inl (ap (λ (t : MachineState). t.slot) same, ap (λ (t : MachineState). t.number) same);
}

pub poll_reserves : (old new : Core) (name : List ℕ) (answer : Answer) → PollAnswers old name answer new
    → MayReserve old.state new.state
poll_reserves old new name (One one) answers = step_reserves answers.step
poll_reserves old new name (Poll told) answers = stays_reserves answers.1.state
poll_reserves old new name (Confirm ticket) answers = absurd answers
poll_reserves old new name Stop answers = absurd answers

pub told_reserves : (old between new : Core) (name : List ℕ) → TellsPoll between name new → between.state ≡ old.state
    → MayReserve old.state new.state
told_reserves old between new name tells state = record {
  renewed = ap (λ (t : MachineState). t.renewed) tells.rest ∙ ap (λ (t : MachineState). t.renewed) state;
  boot = ap (λ (t : MachineState). t.boot) tells.rest ∙ ap (λ (t : MachineState). t.boot) state;
  slot = inl (
    ap (λ (t : MachineState). t.slot) tells.rest ∙ ap (λ (t : MachineState). t.slot) state,
    ap (λ (t : MachineState). t.number) tells.rest ∙ ap (λ (t : MachineState). t.number) state,
  );
}

-- only a confirm changes the history
pub does_history : (old new : Core) (asked : PlainRequest) (one : Reply) → IsNoConfirm asked → Does old asked one new
    → new.state.history ≡ old.state.history
does_history old new asked one none does = step_history does.step none

pub poll_history : (old new : Core) (name : List ℕ) (answer : Answer) → PollAnswers old name answer new
    → new.state.history ≡ old.state.history
poll_history old new name (One one) answers = does_history old new (request.poll name) one tt answers
poll_history old new name (Poll told) answers = ap (λ (s : MachineState). s.history) answers.1.state
poll_history old new name (Confirm ticket) answers = absurd answers
poll_history old new name Stop answers = absurd answers
