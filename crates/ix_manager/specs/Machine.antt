-- The protocol machine: its state, and what each request answers and makes of it.
use Rattle.std.specs.Prelude.{◌≡◌, ◌≢◌, ◌⊎◌, ℕ, ◌+◌, ◌-◌, ◌^◌, ◌<◌, ◌≤◌, min, Bool, true, false}
use Rattle.std.specs.Prelude.{not}
use Rattle.std.specs.Prelude.{List, [], ◌∷◌, ◌++◌, length, Some}
use Rattle.ix_engine.specs.Limits.{most_actions}
use Rattle.ix_words.specs.Each.{Each}
use Rattle.ix_values.specs.PlainAction.{PlainAction, Word}
use Rattle.ix_values.specs.declared.tickets.Ticket.{Ticket}
use Rattle.ix_journal.specs.History.{PlainHistory, Spent, actions_of}
use Rattle.ix_journal.specs.declared.entries.Renewed.{Renewed}
use Rattle.ix_expr.specs.Form.{Form}
use Rattle.ix_expr.specs.Meaning.{IsComplete}
use Rattle.ix_can.specs.TreeOf.{tree_size}
use Rattle.ix_engine.specs.Allowed.{IsPermitted, IsAllowed}
use Rattle.ix_lease.specs.Slots.{IsOpenAt, HasTicket}
use Rattle.ix_lease.specs.declared.Slot.{Slot}
use Rattle.ix_lease.specs.declared.Slot.TheVariants as slot
use Rattle.ix_proto.specs.Requests as request
use Rattle.ix_proto.specs.Requests.{PlainRequest}
use Rattle.ix_proto.specs.declared.reply.Outcome.TheVariants as became
use Rattle.ix_proto.specs.declared.reply.Reply.{Reply}
use Rattle.ix_proto.specs.declared.reply.Reply.TheVariants as reply
use Rattle.ix_manager.specs.Refusals as refused

-- a watch: a client's name, an action, and what was last told of it
pub record MachineWatch : Type 0 where
  pub name : List ℕ
  pub action : PlainAction
  pub told : Bool

-- the confirmed actions with their tickets, of which the carried ones stand for those of the
-- journals before, and what they stand for; the reservation, the watches, the greatest moment so
-- far, the boot, and the next number
pub record MachineState : Type 0 where
  pub history : PlainHistory
  pub renewed : Renewed
  pub slot : Slot
  pub watches : List MachineWatch
  pub moment : ℕ
  pub boot : ℕ
  pub number : ℕ

-- the state at the start of this boot, with what was recovered
abbrev pub start_of : PlainHistory → Renewed → ℕ → MachineState
start_of history renewed boot = record {
  history = history;
  renewed = renewed;
  slot = slot.Free;
  watches = [];
  moment = 0;
  boot = boot;
  number = 1;
}

-- how many more actions the carried ones stand for than they are
abbrev pub ahead_of : Renewed → ℕ
ahead_of renewed = renewed.actions - renewed.carried

-- the count of a history: with those that the carried ones stand for
abbrev pub count_of : Renewed → PlainHistory → ℕ
count_of renewed history = ahead_of renewed + length history

-- how many actions were confirmed
abbrev pub count : MachineState → ℕ
count s = count_of s.renewed s.history

-- the confirmed actions as a word
abbrev pub word_of : MachineState → Word
word_of s = actions_of s.history

-- the ticket of the next ask that is granted
abbrev pub next_ticket : MachineState → Ticket
next_ticket s = record { boot = s.boot; seq = s.number }

-- no pair of the history has the ticket
abbrev pub IsAbsent : Ticket → PlainHistory → Type 0
IsAbsent ticket history = Each (λ (spent : Spent). spent.0 ≢ Some ticket) history

-- the slot is open at the moment, and holds the ticket
abbrev pub IsOpenWith : Slot → ℕ → Ticket → Type 0
IsOpenWith slot moment ticket = IsOpenAt slot moment × HasTicket slot ticket

-- by this boot, with this next number in it, no ask was granted the ticket
abbrev pub IsUngranted : ℕ → ℕ → Ticket → Type 0
IsUngranted boot number ticket =
    (ticket.boot ≡ 0) ⊎ (ticket.seq ≡ 0) ⊎ (boot < ticket.boot)
    ⊎ ((ticket.boot ≡ boot) × (number ≤ ticket.seq))

-- the truth value tells whether it holds
abbrev pub Tells : Type 0 → Bool → Type 0
Tells P true = P
Tells P false = P → ⊥

-- the watch is of this name and this action
abbrev pub IsOf : List ℕ → PlainAction → MachineWatch → Type 0
IsOf name a watch = (watch.name ≡ name) × (watch.action ≡ a)

-- no watch is of this name and this action
abbrev pub IsUnwatched : List ℕ → PlainAction → List MachineWatch → Type 0
IsUnwatched name a watches = Each (λ watch. IsOf name a watch → ⊥) watches

-- no watch is of this name
abbrev pub HasNoWatch : List ℕ → List MachineWatch → Type 0
HasNoWatch name watches = Each (λ (watch : MachineWatch). watch.name ≢ name) watches

-- a poll of a name: each of its watches whose action's allowance isn't what was told, in order, and
-- the watches with this told
pub data Polls (allowed : PlainAction → Type 0) (name : List ℕ) : List MachineWatch → List Reply
    → List MachineWatch → Type 0 where
  done : Polls allowed name [] [] []
  other : {watch : MachineWatch} {watches after : List MachineWatch} {changes : List Reply}
      → watch.name ≢ name → Polls allowed name watches changes after
      → Polls allowed name (watch ∷ watches) changes (watch ∷ after)
  same : {watch : MachineWatch} {watches after : List MachineWatch} {changes : List Reply}
      → watch.name ≡ name → Tells (allowed watch.action) watch.told
      → Polls allowed name watches changes after
      → Polls allowed name (watch ∷ watches) changes (watch ∷ after)
  changed : {watch : MachineWatch} {watches after : List MachineWatch} {changes : List Reply}
      → watch.name ≡ name → Tells (allowed watch.action) (not watch.told)
      → Polls allowed name watches changes after
      → Polls allowed name (watch ∷ watches) (reply.Change (not watch.told) watch.action ∷ changes)
      (record watch { told = not watch.told } ∷ after)

-- The replies to a request and the state after it, for an expression and a limit of Size. Where
-- memory ran out, an ask, a watch or a poll answers 90 in place of what follows the last of its
-- refusals.
pub data Step (x : Form) (limit : ℕ) (s : MachineState) : PlainRequest → List Reply → MachineState
    → Type 0 where
  busy : {a : PlainAction} {lease deadline : ℕ} (held : PlainAction) (ticket : Ticket)
      → s.slot ≡ slot.Held ticket held deadline → s.moment < deadline
      → Step x limit s (request.ask a lease) (refused.busy_until deadline ∷ []) s
  not_permitted : {a : PlainAction} {lease : ℕ}
      → (IsOpenAt s.slot s.moment → ⊥) → (IsPermitted x (word_of s) a → ⊥)
      → Step x limit s (request.ask a lease) (refused.not_permitted ∷ [])
      (record s { slot = slot.Free })
  full : {a : PlainAction} {lease : ℕ}
      → (IsOpenAt s.slot s.moment → ⊥) → IsPermitted x (word_of s) a
      → length s.history ≡ most_actions
      → Step x limit s (request.ask a lease) (refused.full ∷ []) (record s { slot = slot.Free })
  large : {a : PlainAction} {lease : ℕ}
      → (IsOpenAt s.slot s.moment → ⊥) → IsPermitted x (word_of s) a
      → length s.history < most_actions
      → limit < tree_size x (word_of s ++ a ∷ [])
      → Step x limit s (request.ask a lease) (refused.above limit ∷ [])
      (record s { slot = slot.Free })
  granted : {a : PlainAction} {lease : ℕ}
      → (IsOpenAt s.slot s.moment → ⊥) → IsAllowed x limit (word_of s) a
      → Step x limit s (request.ask a lease) (reply.Granted (next_ticket s) ∷ [])
      (record s {
        slot = slot.Held (next_ticket s) a (min (s.moment + lease) (2 ^ 64 - 1));
        number = s.number + 1;
      })
  ask_memory : {a : PlainAction} {lease : ℕ}
      → (IsOpenAt s.slot s.moment → ⊥) → IsPermitted x (word_of s) a
      → length s.history < most_actions
      → Step x limit s (request.ask a lease) (refused.no_memory ∷ [])
      (record s { slot = slot.Free })
  confirmed : {ticket : Ticket} (a : PlainAction) (deadline : ℕ)
      → s.slot ≡ slot.Held ticket a deadline → s.moment < deadline
      → Step x limit s (request.confirm ticket) (reply.Confirmed (count s + 1) ∷ [])
      (record s { history = s.history ++ (Some ticket, a) ∷ []; slot = slot.Free })
  confirm_expired : {ticket : Ticket}
      → HasTicket s.slot ticket → (IsOpenAt s.slot s.moment → ⊥)
      → Step x limit s (request.confirm ticket) (refused.expired ∷ []) s
  confirm_no_such : {ticket : Ticket}
      → (HasTicket s.slot ticket → ⊥)
      → Step x limit s (request.confirm ticket) (refused.no_such_ticket ∷ []) s
  cancelled : {ticket : Ticket} (a : PlainAction) (deadline : ℕ)
      → s.slot ≡ slot.Held ticket a deadline → s.moment < deadline
      → Step x limit s (request.cancel ticket) (reply.Cancelled ticket ∷ [])
      (record s { slot = slot.Free })
  cancel_expired : {ticket : Ticket}
      → HasTicket s.slot ticket → (IsOpenAt s.slot s.moment → ⊥)
      → Step x limit s (request.cancel ticket) (refused.expired ∷ []) s
  cancel_no_such : {ticket : Ticket}
      → (HasTicket s.slot ticket → ⊥)
      → Step x limit s (request.cancel ticket) (refused.no_such_ticket ∷ []) s
  outcome_confirmed : {ticket : Ticket} {place : ℕ} (before behind : PlainHistory) (a : PlainAction)
      → s.history ≡ before ++ (Some ticket, a) ∷ behind
      → place ≡ ahead_of s.renewed + length before + 1
      → Step x limit s (request.outcome ticket) (reply.Outcome (became.Confirmed place) ∷ []) s
  outcome_open : {ticket : Ticket}
      → IsAbsent ticket s.history → IsOpenWith s.slot s.moment ticket
      → Step x limit s (request.outcome ticket) (reply.Outcome became.Waiting ∷ []) s
  outcome_no_such : {ticket : Ticket}
      → IsAbsent ticket s.history → (IsOpenWith s.slot s.moment ticket → ⊥)
      → IsUngranted s.boot s.number ticket
      → Step x limit s (request.outcome ticket) (refused.no_such_ticket ∷ []) s
  outcome_left_out : {ticket : Ticket}
      → IsAbsent ticket s.history → (IsOpenWith s.slot s.moment ticket → ⊥)
      → (IsUngranted s.boot s.number ticket → ⊥) → ticket.boot ≤ s.renewed.boots
      → Step x limit s (request.outcome ticket) (refused.ticket_left_out ∷ []) s
  outcome_never : {ticket : Ticket}
      → IsAbsent ticket s.history → (IsOpenWith s.slot s.moment ticket → ⊥)
      → (IsUngranted s.boot s.number ticket → ⊥) → s.renewed.boots < ticket.boot
      → Step x limit s (request.outcome ticket) (reply.Outcome became.Never ∷ []) s
  may : {a : PlainAction} {answer : Bool}
      → Tells (IsPermitted x (word_of s) a) answer
      → Step x limit s (request.may a) (reply.May answer ∷ []) s
  watches_full : {name : List ℕ} {a : PlainAction}
      → IsUnwatched name a s.watches → length s.watches ≡ 4096
      → Step x limit s (request.watch name a) (refused.too_many_watches ∷ []) s
  watches_new : {name : List ℕ} {a : PlainAction} {told : Bool}
      → IsUnwatched name a s.watches → length s.watches < 4096
      → Tells (IsAllowed x limit (word_of s) a) told
      → Step x limit s (request.watch name a) (reply.Watching told ∷ [])
      (record s { watches = s.watches ++ record { name = name; action = a; told = told } ∷ [] })
  watches_again : {name : List ℕ} {a : PlainAction} {told : Bool}
      (before behind : List MachineWatch) (watch : MachineWatch)
      → s.watches ≡ before ++ watch ∷ behind → IsOf name a watch
      → Tells (IsAllowed x limit (word_of s) a) told
      → Step x limit s (request.watch name a) (reply.Watching told ∷ [])
      (record s { watches = before ++ record watch { told = told } ∷ behind })
  watch_memory : {name : List ℕ} {a : PlainAction}
      → (IsUnwatched name a s.watches → length s.watches < 4096)
      → Step x limit s (request.watch name a) (refused.no_memory ∷ []) s
  dropped : {name : List ℕ} {a : PlainAction} (before behind : List MachineWatch)
      (watch : MachineWatch)
      → s.watches ≡ before ++ watch ∷ behind → IsOf name a watch
      → Step x limit s (request.drop_watch name a) (reply.Dropped ∷ [])
      (record s { watches = before ++ behind })
  drop_no_such : {name : List ℕ} {a : PlainAction}
      → IsUnwatched name a s.watches
      → Step x limit s (request.drop_watch name a) (refused.no_such_watch ∷ []) s
  polled : {name : List ℕ} {changes : List Reply} {after : List MachineWatch}
      → Polls (IsAllowed x limit (word_of s)) name s.watches changes after
      → Step x limit s (request.poll name) (reply.Changes (length changes) ∷ changes)
      (record s { watches = after })
  poll_memory : {name : List ℕ}
      → (HasNoWatch name s.watches → ⊥)
      → Step x limit s (request.poll name) (refused.no_memory ∷ []) s
  status : {complete : Bool}
      → Tells (IsComplete x [] (word_of s)) complete
      → Step x limit s request.status
      (reply.Status complete (count s) (tree_size x (word_of s)) ∷ []) s
  entry : {number : ℕ} {a : PlainAction} (before behind : Word)
      → word_of s ≡ before ++ a ∷ behind → number ≡ ahead_of s.renewed + length before + 1
      → s.renewed.actions < number
      → Step x limit s (request.log number) (reply.Entry number a ∷ []) s
  entry_left_out : {number : ℕ}
      → 0 < number → number ≤ s.renewed.actions
      → Step x limit s (request.log number) (refused.entry_left_out ∷ []) s
  no_such_entry : {number : ℕ}
      → (number ≡ 0) ⊎ (count s < number)
      → Step x limit s (request.log number) (refused.no_such_entry ∷ []) s
  stopping : Step x limit s request.stop (reply.Stopping ∷ []) s
