use Rattle.std.proofs.Common.{refl, sym, ◌∙◌, ap}
use Rattle.ix_manager.specs.Machine.{count}
use Rattle.ix_manager.specs.inside.Core.{Core}
use Rattle.ix_manager.proofs.Stepping.{seen_same, status_does}
use Rattle.ix_manager.proofs.machine.Machine.status.Goals as goal

pub returns : goal.returns
returns c =
    let i = c.self.inside in
    seen_same _ _ _ _ _ c.self.view_is refl
    (status_does i.engine i.tickets.items i.slot i.watches i.moment i.renewed i.boot i.number c.self.invariant.each
    c.is_complete.result c.count.result c.nodes.result c.is_complete.ensures
    (c.count.ensures.value ∙ ap (λ (core : Core). count core.state) (sym c.self.view_is)) c.nodes.ensures.value)
