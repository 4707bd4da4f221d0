-- What a step of an ask, a confirm, a cancel or an outcome tells by its reply.
use Rattle.std.proofs.Common.{◌≡◌, ◌⊎◌, inl, inr, ℕ, ◌+◌, true, List, [], ◌∷◌, ◌++◌, length, Some, refl}
use Rattle.std.specs.Bool.{⊤}
use Rattle.ix_values.specs.PlainAction.{PlainAction}
use Rattle.ix_values.specs.declared.tickets.Ticket.{Ticket}
use Rattle.ix_expr.specs.Form.{Form}
use Rattle.ix_journal.specs.History.{PlainHistory}
use Rattle.ix_lease.specs.declared.Slot.TheVariants.{Held}
use Rattle.ix_proto.specs.Requests as request
use Rattle.ix_proto.specs.Requests.{PlainRequest}
use Rattle.ix_proto.specs.declared.reply.Outcome.TheVariants as became
use Rattle.ix_proto.specs.declared.reply.Reply.{Reply}
use Rattle.ix_proto.specs.declared.reply.Reply.TheVariants as reply
use Rattle.ix_manager.specs.Machine.{MachineState, Step, IsUngranted, next_ticket, busy, not_permitted, full, large, granted, ask_memory, confirmed, confirm_expired, confirm_no_such, cancelled, cancel_expired, cancel_no_such, outcome_confirmed, outcome_open, outcome_no_such, outcome_left_out, outcome_never, ahead_of, count}
use Rattle.ix_client.specs.Grants.{is_refusal_of_ask}

-- the next ticket is reserved for the action
pub record Reserves (s u : MachineState) (a : PlainAction) (ticket : Ticket) : Type 0 where
  pub ticket_is : ticket ≡ next_ticket s
  pub deadline : ℕ
  pub slot : u.slot ≡ Held ticket a deadline
  pub history : u.history ≡ s.history
  pub boot : u.boot ≡ s.boot
  pub number : u.number ≡ s.number + 1

abbrev pub OfAsk : MachineState → MachineState → PlainAction → Reply → Type 0
OfAsk s u a (reply.Granted ticket) = Reserves s u a ticket
OfAsk s u a (reply.Refused code number) = (is_refusal_of_ask code ≡ true) ⊎ (code ≡ 90)
OfAsk s u a _ = ⊥

-- the reserved pair is stored
pub record StoresPair (s u : MachineState) (ticket : Ticket) (number : ℕ) : Type 0 where
  pub action : PlainAction
  pub deadline : ℕ
  pub held : s.slot ≡ Held ticket action deadline
  pub history : u.history ≡ s.history ++ (Some ticket, action) ∷ []
  pub renewed : u.renewed ≡ s.renewed
  pub place : number ≡ count s + 1

abbrev pub OfConfirm : MachineState → MachineState → Ticket → Reply → Type 0
OfConfirm s u ticket (reply.Confirmed number) = StoresPair s u ticket number
OfConfirm s u ticket (reply.Refused code number) = (code ≡ 31) ⊎ (code ≡ 30)
OfConfirm s u ticket _ = ⊥

abbrev pub OfCancel : Ticket → Reply → Type 0
OfCancel ticket (reply.Cancelled told) = told ≡ ticket
OfCancel ticket (reply.Refused code number) = (code ≡ 31) ⊎ (code ≡ 30)
OfCancel ticket _ = ⊥

-- the ticket is kept
pub record KeepsPair (s u : MachineState) (ticket : Ticket) (number : ℕ) : Type 0 where
  pub action : PlainAction
  pub before : PlainHistory
  pub behind : PlainHistory
  pub split : s.history ≡ before ++ (Some ticket, action) ∷ behind
  pub place : number ≡ ahead_of s.renewed + length before + 1
  pub history : u.history ≡ s.history
  pub renewed : u.renewed ≡ s.renewed

abbrev pub OfOutcome : MachineState → MachineState → Ticket → Reply → Type 0
OfOutcome s u ticket (reply.Outcome (became.Confirmed number)) = KeepsPair s u ticket number
OfOutcome s u ticket (reply.Outcome became.Waiting) = ⊤
OfOutcome s u ticket (reply.Outcome became.Never) = ⊤
OfOutcome s u ticket (reply.Refused code number) = (code ≡ 32) ⊎ IsUngranted s.boot s.number ticket
OfOutcome s u ticket _ = ⊥

-- there is one reply
pub record OneReply (others : List Reply) (P : Type 0) : Type 0 where
  pub alone : others ≡ []
  pub told : P

abbrev pub Facts : MachineState → MachineState → PlainRequest → List Reply → Type 0
Facts s u (request.ask a lease) (first ∷ others) = OneReply others (OfAsk s u a first)
Facts s u (request.confirm ticket) (first ∷ others) = OneReply others (OfConfirm s u ticket first)
Facts s u (request.cancel ticket) (first ∷ others) = OneReply others (OfCancel ticket first)
Facts s u (request.outcome ticket) (first ∷ others) = OneReply others (OfOutcome s u ticket first)
Facts s u _ _ = ⊤

one : {P : Type 0} → P → OneReply [] P
one p = record { alone = refl; told = p }

pub step_facts : {x : Form} {limit : ℕ} {s u : MachineState} {asked : PlainRequest} {replies : List Reply} → Step x limit s asked replies u → Facts s u asked replies
step_facts (busy held ticket is before) = one (inl refl)
step_facts (not_permitted shut no_word) = one (inl refl)
step_facts (full shut may long) = one (inl refl)
step_facts (large shut may room above) = one (inl refl)
step_facts (ask_memory shut may room) = one (inr refl)
step_facts (granted shut may) =
    one (record { ticket_is = refl; deadline = _; slot = refl; history = refl; boot = refl; number = refl })
step_facts (confirmed a deadline held before) =
    one (record { action = a; deadline = deadline; held = held; history = refl; renewed = refl; place = refl })
step_facts (confirm_expired has shut) = one (inl refl)
step_facts (confirm_no_such none) = one (inr refl)
step_facts (cancelled a deadline held before) = one refl
step_facts (cancel_expired has shut) = one (inl refl)
step_facts (cancel_no_such none) = one (inr refl)
step_facts (outcome_confirmed before behind a split place) =
    one (record { action = a; before = before; behind = behind; split = split; place = place; history = refl; renewed = refl })
step_facts (outcome_open absent is) = one tt
step_facts (outcome_no_such absent shut ungranted) = one (inr ungranted)
step_facts (outcome_left_out absent shut known before) = one (inl refl)
step_facts (outcome_never absent shut known later) = one tt
step_facts _ = tt
