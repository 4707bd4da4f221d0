use Rattle.ix_values.proofs.TicketTexts.{tickets-apart}
use Rattle.ix_values.proofs.tickets.texts_tell_tickets_apart.Goals as goal

pub returns : goal.returns
returns c = tickets-apart
