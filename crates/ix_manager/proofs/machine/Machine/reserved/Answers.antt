use Rattle.std.proofs.Common.{◌<◌, length, subst, sym}
use Rattle.ix_lease.specs.declared.Take.{Take}
use Rattle.ix_lease.specs.inside.Takes.{TakesSlot}
use Rattle.ix_manager.specs.inside.Core.{Core}
use Rattle.ix_manager.specs.inside.Saving.{Finds}
use Rattle.ix_manager.proofs.Stepping.{counts, ready_room}
use Rattle.ix_manager.proofs.machine.Machine.reserved.Goals as goal

pub returns-clause-takes : goal.returns-clause-takes
returns-clause-takes c =
    subst (λ (core : Core). Finds core c.args.ticket c.take.result) c.self.view_is (c.take.new.self, c.take.ensures)

-- what is reserved was prepared
pub returns-clause-room : goal.returns-clause-room
returns-clause-room c = λ a is.
    let i = c.self.inside in
    let facts = subst (λ (t : Take). TakesSlot i.slot c.args.ticket i.moment t c.take.new.self) is c.take.ensures in
    subst (λ (core : Core). length core.state.history < 1000000) c.self.view_is
    (subst (λ n. n < 1000000) (sym (counts i.engine i.tickets.items i.slot i.watches i.moment i.renewed i.boot i.number c.self.invariant.each))
    (ready_room i.engine i.tickets i.slot i.pending c.args.ticket a facts.0 c.self.invariant.ready facts.1))
