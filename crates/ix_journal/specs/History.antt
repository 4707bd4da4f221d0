-- What was confirmed: what a journal keeps, and what a machine goes on from.
use Rattle.std.specs.Prelude.{List, Option, map}
use Rattle.ix_values.specs.PlainAction.{PlainAction, Word}
use Rattle.ix_values.specs.declared.tickets.Ticket.{Ticket}

-- a confirmed action, with the ticket that was spent on it where that is kept
abbrev pub Spent : Type 0
Spent = Option Ticket × PlainAction

-- the confirmed actions with their tickets, the first one first
abbrev pub PlainHistory : Type 0
PlainHistory = List Spent

-- the actions alone
abbrev pub actions_of : PlainHistory → Word
actions_of history = map (λ (spent : Spent). spent.1) history
