-- When a reservation is open, and which ticket it has.
use Rattle.std.specs.Prelude.{◌≡◌, ◌<◌, ℕ}
use Rattle.ix_values.specs.declared.tickets.Ticket.{Ticket}
use Rattle.ix_lease.specs.declared.Slot.{Slot}
use Rattle.ix_lease.specs.declared.Slot.TheVariants.{Free, Held}

-- held, and the moment is below the deadline
abbrev pub IsOpenAt : Slot → ℕ → Type 0
IsOpenAt Free moment = ⊥
IsOpenAt (Held ticket action deadline) moment = moment < deadline

-- held with this ticket
abbrev pub HasTicket : Slot → Ticket → Type 0
HasTicket Free ticket = ⊥
HasTicket (Held held action deadline) ticket = held ≡ ticket
