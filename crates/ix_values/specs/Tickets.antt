-- Tickets and their texts.
use Rattle.std.specs.Prelude.{◌≡◌, ℕ, ◌<◌, ◌^◌, List, ◌∷◌, ◌++◌, decimal}
use Rattle.ix_values.specs.declared.tickets.Ticket.{Ticket}

-- the numbers fit into 64 bits
pub record IsTicket (ticket : Ticket) : Type 0 where
  pub boot : ticket.boot < 2 ^ 64
  pub seq : ticket.seq < 2 ^ 64

-- the boot and the number in that boot, in decimal, joined by `-`
abbrev pub ticket_text : Ticket → List ℕ
ticket_text ticket = decimal ticket.boot ++ 45 ∷ decimal ticket.seq

-- the text of some ticket
abbrev pub IsTicketText : List ℕ → Type 0
IsTicketText text = (ticket : Ticket) × IsTicket ticket × (text ≡ ticket_text ticket)
