-- A granted action with its ticket, whether it is to be confirmed or isn't settled yet.
use Rattle.ix_values.specs.PlainAction.{PlainAction}
use Rattle.ix_values.specs.declared.tickets.Ticket.{Ticket}

pub record Grant : Type 0 where
  pub ticket : Ticket
  pub action : PlainAction
