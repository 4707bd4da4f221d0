use Rattle.std.proofs.Common.{◌∙◌}
use Rattle.ix_store.proofs.Pairing.{length-pairs}
use Rattle.ix_store.proofs.history.History.len.Goals as goal

pub returns : goal.returns
returns c =
    let it = c.self.inside in
    rw (← c.self.view_is) (c.len.ensures ∙ it.actions.ok.0 ∙ length-pairs it.tickets.items it.actions.items c.self.invariant)
