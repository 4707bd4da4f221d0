use Rattle.std.proofs.Common.{refl}
use Rattle.ix_manager.proofs.Stepping.{seen_same, may_does}
use Rattle.ix_manager.proofs.machine.Machine.may.Goals as goal

pub returns : goal.returns
returns c =
    let i = c.self.inside in
    seen_same _ _ _ _ _ c.self.view_is refl
    (may_does i.engine i.tickets.items i.slot i.watches i.moment i.renewed i.boot i.number c.self.invariant.each c.args.action.now c.may.result c.may.ensures)
