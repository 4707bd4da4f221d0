-- What holds of the texts of actions and of tickets.
use Rattle.std.specs.Prelude.{◌≡◌, ℕ, List}
use Rattle.ix_values.specs.Faults.{IsFault}
use Rattle.ix_values.specs.PlainAction.{PlainAction, text_of}
use Rattle.ix_values.specs.Texts.{IsAction}
use Rattle.ix_values.specs.Tickets.{IsTicket, ticket_text}
use Rattle.ix_values.specs.declared.tickets.Ticket.{Ticket}

-- two actions with one text are the same action
abbrev pub TextsTellActionsApart : Type 0
TextsTellActionsApart = (x y : PlainAction) → IsAction x → IsAction y → text_of x ≡ text_of y
    → x ≡ y

-- two tickets with one text are the same ticket
abbrev pub TextsTellTicketsApart : Type 0
TextsTellTicketsApart = (s t : Ticket) → IsTicket s → IsTicket t → ticket_text s ≡ ticket_text t
    → s ≡ t

-- a text has at most one fault, at one place
abbrev pub ActionTextsHaveOneFault : Type 0
ActionTextsHaveOneFault =
    (text : List ℕ) (c d at other : ℕ) → IsFault text c at → IsFault text d other
    → (c ≡ d) × (at ≡ other)
