-- Laws of the machine's table, as statements over the table alone.
use Rattle.std.specs.Prelude.{◌≡◌, ◌≢◌, ℕ, ◌+◌, ◌<◌, not, List, [], ◌∷◌, ◌++◌, length, map}
use Rattle.std.specs.Prelude.{Some}
use Rattle.ix_words.specs.Parts.{Projection}
use Rattle.ix_values.specs.PlainAction.{PlainAction}
use Rattle.ix_values.specs.declared.tickets.Ticket.{Ticket}
use Rattle.ix_expr.specs.Form.{Form}
use Rattle.ix_engine.specs.Allowed.{IsAllowed}
use Rattle.ix_lease.specs.declared.Slot.TheVariants as slot
use Rattle.ix_proto.specs.Requests as request
use Rattle.ix_proto.specs.Requests.{PlainRequest}
use Rattle.ix_proto.specs.declared.reply.Reply.{Reply}
use Rattle.ix_proto.specs.declared.reply.Reply.TheVariants as reply
use Rattle.ix_manager.specs.Refusals as refused
use Rattle.ix_manager.specs.Machine.{MachineState, MachineWatch, Step, Tells, count, word_of}

-- a confirm with the ticket of the open reservation is confirmed: ticket and action join the
-- history, and the slot is free
abbrev pub OpenTicketsAreConfirmed : Type 0
OpenTicketsAreConfirmed =
    (x : Form) (limit : ℕ) (s : MachineState) (ticket : Ticket) (deadline : ℕ) (a : PlainAction)
    (replies : List Reply) (after : MachineState)
    → s.slot ≡ slot.Held ticket a deadline → s.moment < deadline
    → Step x limit s (request.confirm ticket) replies after
    → (replies ≡ reply.Confirmed (count s + 1) ∷ [])
    × (after ≡ record s { history = s.history ++ (Some ticket, a) ∷ []; slot = slot.Free })

-- an ask, a watch or a poll
abbrev pub MayWantMemory : PlainRequest → Type 0
MayWantMemory (request.ask a lease) = Unit {0}
MayWantMemory (request.watch name a) = Unit {0}
MayWantMemory (request.poll name) = Unit {0}
MayWantMemory _ = ⊥

-- only an ask, a watch or a poll is refused for want of memory
abbrev pub OnlySomeWantMemory : Type 0
OnlySomeWantMemory =
    (x : Form) (limit : ℕ) (s : MachineState) (asked : PlainRequest) (after : MachineState)
    → Step x limit s asked (refused.no_memory ∷ []) after → MayWantMemory asked

-- the watch is of this name, and whether its action is allowed isn't what was told of it
abbrev pub HasChanged : (PlainAction → Type 0) → List ℕ → MachineWatch → Type 0
HasChanged allowed name watch = (watch.name ≡ name) × Tells (allowed watch.action) (not watch.told)

-- the reply that tells so
abbrev pub change_of : MachineWatch → Reply
change_of watch = reply.Change (not watch.told) watch.action

-- unless memory runs out, a poll tells exactly the watches of its name that changed, in order,
-- behind their number
abbrev pub PollsTellWhatChanged : Type 0
PollsTellWhatChanged =
    (x : Form) (limit : ℕ) (s : MachineState) (name : List ℕ) (replies : List Reply)
    (after : MachineState)
    → Step x limit s (request.poll name) replies after → replies ≢ refused.no_memory ∷ []
    → (changed : List MachineWatch)
    × Projection (HasChanged (IsAllowed x limit (word_of s)) name) s.watches changed
    × (replies ≡ reply.Changes (length changed) ∷ map change_of changed)
