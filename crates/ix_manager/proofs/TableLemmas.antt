-- What the machine's table says of a confirm, of want of memory and of a poll.
use Rattle.std.proofs.Common.{◌≡◌, ◌≢◌, ℕ, ◌+◌, ◌<◌, List, [], ◌∷◌, ◌++◌, length, map, refl, sym, ◌∙◌, ap, subst, not, Bool, true, false, Option, Some, None, arith}
use Rattle.std.proofs.lemmas.List.{length-map}
use Rattle.ix_words.specs.Parts.{Projection, ended, kept, left_out}
use Rattle.ix_values.specs.PlainAction.{PlainAction}
use Rattle.ix_values.specs.declared.tickets.Ticket.{Ticket}
use Rattle.ix_expr.specs.Form.{Form}
use Rattle.ix_engine.specs.Allowed.{IsAllowed}
use Rattle.ix_lease.specs.Slots.{IsOpenAt, HasTicket}
use Rattle.ix_lease.specs.declared.Slot.{Slot}
use Rattle.ix_lease.specs.declared.Slot.TheVariants.{Free, Held}
use Rattle.ix_proto.specs.Requests as request
use Rattle.ix_proto.specs.Requests.{PlainRequest}
use Rattle.ix_proto.specs.declared.reply.Reply.{Reply}
use Rattle.ix_proto.specs.declared.reply.Reply.TheVariants as reply
use Rattle.ix_manager.specs.Refusals as refused
use Rattle.ix_manager.specs.Machine.{MachineState, MachineWatch, Step, Tells, Polls, done, other, same, changed, busy, not_permitted, full, large, granted, ask_memory, confirmed, confirm_expired, confirm_no_such, cancelled, cancel_expired, cancel_no_such, outcome_confirmed, outcome_open, outcome_no_such, outcome_left_out, outcome_never, may, watches_full, watches_new, watches_again, watch_memory, dropped, drop_no_such, polled, poll_memory, status, entry, entry_left_out, no_such_entry, stopping, count, word_of}
use Rattle.ix_manager.specs.MachineLaws.{OpenTicketsAreConfirmed, MayWantMemory, OnlySomeWantMemory, HasChanged, change_of, PollsTellWhatChanged}
use Rattle.ix_manager.proofs.SlotLemmas.{some_ticket}

-- a request's ticket, where it is a confirm
abbrev confirm_ticket : PlainRequest → Option Ticket
confirm_ticket (request.confirm ticket) = Some ticket
confirm_ticket _ = None

no_confirm : (ticket : Ticket) → None ≡ Some ticket → ⊥
no_confirm ticket e = let no : None ≡ Some ticket = e in cc

-- the action of a held slot, or this one
abbrev action_in : PlainAction → Slot → PlainAction
action_in b Free = b
action_in b (Held ticket a deadline) = a

-- the confirm of an open reservation
confirmed_alone : {x : Form} {limit : ℕ} {s after : MachineState} {asked : PlainRequest} {replies : List Reply}
    → Step x limit s asked replies after → (ticket : Ticket) (deadline : ℕ) (a : PlainAction) → asked ≡ request.confirm ticket
    → s.slot ≡ Held ticket a deadline → s.moment < deadline
    → (replies ≡ reply.Confirmed (count s + 1) ∷ [])
    × (after ≡ record s { history = s.history ++ (Some ticket, a) ∷ []; slot = Free })
confirmed_alone {s = s} (confirmed {ticket = t} b end held within) ticket deadline a asked is before = (
  refl,
  λ i. record s {
    history = s.history ++ (Some (some_ticket (ap confirm_ticket asked) i), ap (action_in a) (sym held ∙ is) i) ∷ [];
    slot = Free;
  },
)
confirmed_alone {s = s} (confirm_expired has over) ticket deadline a asked is before =
    absurd (over (subst (λ (k : Slot). IsOpenAt k s.moment) (sym is) before))
confirmed_alone {s = s} (confirm_no_such {ticket = t} none) ticket deadline a asked is before =
    absurd (none (subst (λ (k : Slot). HasTicket k t) (sym is) (sym (some_ticket (ap confirm_ticket asked)))))
confirmed_alone _ ticket deadline a asked is before = absurd (no_confirm ticket (ap confirm_ticket asked))

pub open_tickets_are_confirmed : OpenTicketsAreConfirmed
open_tickets_are_confirmed x limit s ticket deadline a replies after is before step =
    confirmed_alone step ticket deadline a refl is before

-- the code of a lone refusal
abbrev lone_code : List Reply → ℕ
lone_code (reply.Refused code number ∷ []) = code
lone_code _ = 0

-- who is refused for want of memory
wants_memory : {x : Form} {limit : ℕ} {s after : MachineState} {asked : PlainRequest} {replies : List Reply}
    → Step x limit s asked replies after → lone_code replies ≡ 90 → MayWantMemory asked
wants_memory (busy _ _ _ _) e = tt
wants_memory (not_permitted _ _) e = tt
wants_memory (full _ _ _) e = tt
wants_memory (large _ _ _ _) e = tt
wants_memory (granted _ _) e = tt
wants_memory (ask_memory _ _ _) e = tt
wants_memory (watches_full _ _) e = tt
wants_memory (watches_new _ _ _) e = tt
wants_memory (watches_again _ _ _ _ _ _) e = tt
wants_memory (watch_memory _) e = tt
wants_memory (polled _) e = tt
wants_memory (poll_memory _) e = tt
wants_memory (confirmed _ _ _ _) e = absurd (omega arith)
wants_memory (confirm_expired _ _) e = absurd (omega arith)
wants_memory (confirm_no_such _) e = absurd (omega arith)
wants_memory (cancelled _ _ _ _) e = absurd (omega arith)
wants_memory (cancel_expired _ _) e = absurd (omega arith)
wants_memory (cancel_no_such _) e = absurd (omega arith)
wants_memory (outcome_confirmed _ _ _ _ _) e = absurd (omega arith)
wants_memory (outcome_open _ _) e = absurd (omega arith)
wants_memory (outcome_no_such _ _ _) e = absurd (omega arith)
wants_memory (outcome_left_out _ _ _ _) e = absurd (omega arith)
wants_memory (outcome_never _ _ _ _) e = absurd (omega arith)
wants_memory (may _) e = absurd (omega arith)
wants_memory (dropped _ _ _ _ _) e = absurd (omega arith)
wants_memory (drop_no_such _) e = absurd (omega arith)
wants_memory (status _) e = absurd (omega arith)
wants_memory (entry _ _ _ _ _) e = absurd (omega arith)
wants_memory (entry_left_out _ _) e = absurd (omega arith)
wants_memory (no_such_entry _) e = absurd (omega arith)
wants_memory stopping e = absurd (omega arith)

pub only_some_want_memory : OnlySomeWantMemory
only_some_want_memory x limit s asked after step = wants_memory step refl

-- a truth value and its opposite aren't both told
told_once : (P : Type 0) (b : Bool) → Tells P b → Tells P (not b) → ⊥
told_once P true p isnt = isnt p
told_once P false isnt p = isnt p

-- the watches that a poll tells
told_watches : {allowed : PlainAction → Type 0} {name : List ℕ} {watches after : List MachineWatch} {changes : List Reply}
    → Polls allowed name watches changes after
    → (told : List MachineWatch) × Projection (HasChanged allowed name) watches told × (changes ≡ map change_of told)
told_watches done = ([], ended, refl)
told_watches (other differs rest) =
    let r = told_watches rest in (r.0, left_out (λ h. differs h.0) r.1, r.2)
told_watches (same {watch = watch} named tells rest) =
    let r = told_watches rest in (r.0, left_out (λ h. told_once _ watch.told tells h.1) r.1, r.2)
told_watches (changed {watch = watch} named tells rest) =
    let r = told_watches rest in (watch ∷ r.0, kept (named, tells) r.1, ap (λ c. change_of watch ∷ c) r.2)

-- the name of a poll
abbrev poll_name : List ℕ → PlainRequest → List ℕ
poll_name usual (request.poll name) = name
poll_name usual _ = usual

-- a poll's number among requests
abbrev is_poll : PlainRequest → ℕ
is_poll (request.poll name) = 1
is_poll _ = 0

no_poll : ◌≡◌ {A = ℕ} 0 1 → ⊥
no_poll e = omega arith

told_by : {x : Form} {limit : ℕ} {s after : MachineState} {asked : PlainRequest} {replies : List Reply}
    → Step x limit s asked replies after → (name : List ℕ) → asked ≡ request.poll name → replies ≢ refused.no_memory ∷ []
    → (told : List MachineWatch)
    × Projection (HasChanged (IsAllowed x limit (word_of s)) name) s.watches told
    × (replies ≡ reply.Changes (length told) ∷ map change_of told)
told_by {x = x} {limit = limit} {s = s} (polled {name = own} {changes = changes} polls) name asked memory =
    let r = told_watches polls in
    let same_name = ap (poll_name name) asked in (
      r.0,
      subst (λ n. Projection (HasChanged (IsAllowed x limit (word_of s)) n) s.watches r.0) same_name r.1,
      ap (λ c. reply.Changes (length c) ∷ c) r.2 ∙ ap (λ n. reply.Changes n ∷ map change_of r.0) (length-map r.0 change_of),
    )
told_by (poll_memory _) name asked memory = absurd (memory refl)
told_by _ name asked memory = absurd (no_poll (ap is_poll asked))

pub polls_tell_what_changed : PollsTellWhatChanged
polls_tell_what_changed x limit s name replies after step memory = told_by step name refl memory
