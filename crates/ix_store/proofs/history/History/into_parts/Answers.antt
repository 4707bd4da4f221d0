use Rattle.std.proofs.Common.{sym}
use Rattle.ix_store.proofs.Pairing.{actions-zip, tickets-zip}
use Rattle.ix_store.proofs.history.History.into_parts.Goals as goal

pub returns-clause-tickets : goal.returns-clause-tickets
returns-clause-tickets c =
    let it = c.self.inside in
    rw (← c.self.view_is) (sym (tickets-zip it.tickets.items it.actions.items c.self.invariant))

pub returns-clause-actions : goal.returns-clause-actions
returns-clause-actions c =
    let it = c.self.inside in
    rw (← c.self.view_is) (sym (actions-zip it.tickets.items it.actions.items c.self.invariant))
