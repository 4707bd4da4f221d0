use Rattle.ix_store.proofs.Pairing.{zip-push}
use Rattle.ix_store.proofs.history.History.push.Goals as goal

pub returns-in-Ok : goal.returns-in-Ok
returns-in-Ok c =
    let it = c.self.inside in
    rw (c.in_ok-push.ensures.items, c.in-Ok.ensures.items, ← c.self.view_is)
    (zip-push it.tickets.items it.actions.items c.args.ticket c.args.action c.self.invariant)
