-- What stands ready for a reservation.
use Rattle.std.specs.Prelude.{◌≡◌, ◌^◌, ◌<◌, ◌≤◌, ◌==◌, Bool, false, Option, Some, None, length}
use Rattle.std.specs.Prelude.{Vec}
use Rattle.std.specs.Prelude.{if◌then◌else◌}
use Rattle.std.specs.Vec.{vec_capacity, vec_len}
use Rattle.std.specs.declared.alloc.Global.{Global}
use Rattle.ix_values.specs.PlainAction.{PlainAction}
use Rattle.ix_values.specs.declared.tickets.Ticket.{Ticket}
use Rattle.ix_journal.specs.declared.entries.Renewed.{Renewed}
use Rattle.ix_engine.specs.inside.Engine.{EngineState, IsTreeAfter}
use Rattle.ix_engine.specs.declared.next.Next.{Next}
use Rattle.ix_lease.specs.declared.Slot.{Slot}
use Rattle.ix_lease.specs.declared.Slot.TheVariants.{Free, Held}

-- the prepared action is this one and follows the engine, which has the memory for it
pub record IsPrepared (engine : EngineState) (action : PlainAction) (next : Next) : Type 0 where
  pub same : next.action ≡ action
  pub follows : IsTreeAfter engine next.action next.tree
  pub spare : 1 ≤ engine.spare

-- where the slot is held, its action is prepared, and there is memory for a ticket more
abbrev pub IsReadyFor : EngineState → Vec (Option Ticket) Global → Slot → Option Next → Type 0
IsReadyFor engine tickets Free pending = Unit {0}
IsReadyFor engine tickets (Held ticket action deadline) None = ⊥
IsReadyFor engine tickets (Held ticket action deadline) (Some next) =
    IsPrepared engine action next × (vec_len tickets < vec_capacity tickets)

-- no more actions are carried than they stand for, which fit
pub record IsSoundRenewal (renewed : Renewed) : Type 0 where
  pub carried : renewed.carried ≤ renewed.actions
  pub actions : renewed.actions ≤ 2 ^ 63

-- each action of the engine has its ticket, or none, a reservation is ready, and the carried
-- actions stand for no fewer
pub record IsMachine (engine : EngineState) (tickets : Vec (Option Ticket) Global) (slot : Slot)
    (pending : Option Next) (renewed : Renewed) : Type 0 where
  pub each : length tickets.items ≡ length engine.history
  pub ready : IsReadyFor engine tickets slot pending
  pub stands : IsSoundRenewal renewed

-- the pair's ticket is this one
abbrev pub has_ticket : Ticket → Option Ticket → Bool
has_ticket ticket None = false
has_ticket ticket (Some kept) = if kept.boot == ticket.boot then kept.seq == ticket.seq else false
