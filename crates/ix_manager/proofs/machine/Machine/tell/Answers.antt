use Rattle.std.proofs.Common.{sym, subst}
use Rattle.ix_manager.specs.inside.Core.{Core, IsRefreshed, TellsPoll}
use Rattle.ix_manager.proofs.Stepping.{core_of, tells_poll}
use Rattle.ix_manager.proofs.machine.Machine.tell.Goals as goal

pub returns : goal.returns
returns c =
    let i = c.self.inside in
    let name = c.args.name.now in
    subst (λ (core : Core). TellsPoll core name (core_of i.engine i.tickets.items i.slot c.tell.new.self i.moment i.renewed i.boot i.number)) c.self.view_is
    (tells_poll i.engine i.tickets.items i.slot i.watches i.moment i.renewed i.boot i.number c.self.invariant.each c.tell.new.self name c.tell.ensures
    (subst (λ (core : Core). IsRefreshed core name) (sym c.self.view_is) c.requires))
