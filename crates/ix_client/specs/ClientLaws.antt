-- What the ends of a run tell of a manager that is told.
use Rattle.std.specs.Prelude.{◌≡◌, ◌⊎◌, ℕ, ◌<◌, ◌≤◌, List, [], ◌∷◌, Some}
use Rattle.std.specs.Io.KnownBytes.{append_known}
use Rattle.ix_values.specs.PlainAction.{PlainAction}
use Rattle.ix_values.specs.declared.tickets.Ticket.{Ticket}
use Rattle.ix_outside.specs.SinkState.{SinkState}
use Rattle.ix_proto.specs.Requests as request
use Rattle.ix_proto.specs.declared.reply.Reply.{Reply}
use Rattle.ix_proto.specs.declared.reply.Reply.TheVariants as reply
use Rattle.ix_manager.specs.Later.{Later}
use Rattle.ix_manager.specs.Machine.{MachineState, Step}
use Rattle.ix_manager.specs.Refusals.{no_memory}
use Rattle.ix_client.specs.Client.{Serves}
use Rattle.ix_client.specs.Endings.{line_of}
use Rattle.ix_client.specs.Laws.{IsPairOf, IsToldOver}
use Rattle.ix_client.specs.Links.{LinkState, Told}
use Rattle.ix_client.specs.declared.ended.Ended.TheVariants as ended

-- no ask was granted the ticket before this state
abbrev pub IsNewTicket : MachineState → Ticket → Type 0
IsNewTicket s ticket =
    (s.boot < ticket.boot) ⊎ ((ticket.boot ≡ s.boot) × (s.number ≤ ticket.seq))

-- the pair of this number, in every later history too, is the action with a ticket that was granted
-- in between
abbrev pub IsDoneIn : Told → Told → PlainAction → ℕ → Type 0
IsDoneIn before after a number =
    (later : MachineState) → Later after.form after.machine later
    → (ticket : Ticket) × IsNewTicket before.machine ticket
    × IsPairOf later number (Some ticket, a)

-- an ask of the action is refused so, unless memory runs out
abbrev pub IsRefusedIn : Told → PlainAction → ℕ → Type 0
IsRefusedIn told a code =
    (lease : ℕ) (replies : List Reply) (u : MachineState)
    → Step told.form told.limit told.machine (request.ask a lease) replies u
    → ((number : ℕ) × (replies ≡ reply.Refused code number ∷ [])) ⊎ (replies ≡ no_memory ∷ [])

-- over a link that tells its manager, where a run ended with `done`, the pair of that number, in
-- every later history too, is the action with a ticket that was granted in this run
abbrev pub DoneRunsArePermanent : Type 0
DoneRunsArePermanent =
    (old new : LinkState) (before after : Told) (a : PlainAction) (lease number : ℕ)
    → IsToldOver old new before after → Serves a lease (ended.Done number) old new
    → IsDoneIn before after a number

-- over such a link, where a run ended with a refusal, an ask of its action at its end is refused so
-- again, unless memory runs out
abbrev pub RefusalsLast : Type 0
RefusalsLast =
    (old new : LinkState) (before after : Told) (a : PlainAction) (lease code : ℕ)
    → IsToldOver old new before after → Serves a lease (ended.Refused code) old new
    → IsRefusedIn after a code

-- the line `done` with a number was put; where the link told its manager before the run and behind
-- it, the action is the pair of that number for good
pub record TellsDone (a : PlainAction) (old new : LinkState) (before after : SinkState)
    : Type 0 where
  pub number : ℕ
  pub line : after.written ≡ append_known before.written (line_of (ended.Done number))
  pub lasts : (was is : Told) → IsToldOver old new was is → IsDoneIn was is a number

-- the line `refused` with a code was put; where the link told its manager so, an ask of the action
-- at the end of the run is refused so
pub record TellsRefused (a : PlainAction) (old new : LinkState) (before after : SinkState)
    : Type 0 where
  pub code : ℕ
  pub line : after.written ≡ append_known before.written (line_of (ended.Refused code))
  pub lasts : (was is : Told) → IsToldOver old new was is → IsRefusedIn is a code
