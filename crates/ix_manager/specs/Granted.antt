-- Which tickets were granted so far.
use Rattle.std.specs.Prelude.{◌≡◌, ℕ, ◌<◌, ◌≤◌, Some}
use Rattle.ix_values.specs.declared.tickets.Ticket.{Ticket}
use Rattle.ix_journal.specs.History.{Spent}

-- the ticket was granted in this boot, below the number, or in an earlier one
pub record IsGranted (boot number : ℕ) (ticket : Ticket) : Type 0 where
  pub earlier : ticket.boot ≤ boot
  pub below : ticket.boot ≡ boot → ticket.seq < number

-- the ticket of the pair, where it has one, was
abbrev pub WasGranted : ℕ → ℕ → Spent → Type 0
WasGranted boot number spent = (ticket : Ticket) → spent.0 ≡ Some ticket
    → IsGranted boot number ticket
