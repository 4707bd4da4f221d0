-- Up to when a reservation is open, and what taking it answers.
use Rattle.std.specs.Prelude.{◌≡◌, ◌<◌, ℕ}
use Rattle.ix_values.specs.declared.tickets.Ticket.{Ticket}
use Rattle.ix_lease.specs.declared.Slot.{Slot}
use Rattle.ix_lease.specs.declared.Slot.TheVariants.{Free, Held}
use Rattle.ix_lease.specs.declared.Take.{Take}
use Rattle.ix_lease.specs.declared.Take.TheVariants.{Taken, Expired, NoSuch}
use Rattle.ix_lease.specs.Slots.{IsOpenAt, HasTicket}

-- open at the moment, up to this deadline
abbrev pub IsOpenUntil : Slot → ℕ → ℕ → Type 0
IsOpenUntil Free moment deadline = ⊥
IsOpenUntil (Held ticket action end) moment deadline = (end ≡ deadline) × (moment < end)

-- what a slot that was old and is new answers to this ticket at this moment
abbrev pub TakesSlot : Slot → Ticket → ℕ → Take → Slot → Type 0
TakesSlot old ticket moment (Taken action) new =
    (deadline : ℕ) × (old ≡ Held ticket action deadline) × (moment < deadline) × (new ≡ Free)
TakesSlot old ticket moment Expired new =
    HasTicket old ticket × (¬ IsOpenAt old moment) × (new ≡ old)
TakesSlot old ticket moment NoSuch new = (¬ HasTicket old ticket) × (new ≡ old)
