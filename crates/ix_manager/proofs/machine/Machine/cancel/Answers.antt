use Rattle.std.proofs.Common.{refl}
use Rattle.ix_manager.proofs.Stepping.{seen, cancelled_does, cancel_expired_does, cancel_no_such_does}
use Rattle.ix_manager.proofs.machine.Machine.cancel.Goals as goal

pub returns-in-Taken : goal.returns-in-Taken
returns-in-Taken c =
    let i = c.self.inside in
    let facts = c.in-Taken.ensures in
    seen _ _ _ _ _ _ c.self.view_is refl
    (cancelled_does i.engine i.tickets.items i.slot i.watches i.moment i.renewed i.boot i.number c.self.invariant.each c.take.new.self c.args.ticket c.in-Taken.field-0 facts.0 facts.1 facts.2 facts.3)

pub returns-in-Expired : goal.returns-in-Expired
returns-in-Expired c =
    let i = c.self.inside in
    let facts = c.in-Expired.ensures in
    seen _ _ _ _ _ _ c.self.view_is c.refused.ensures
    (cancel_expired_does i.engine i.tickets.items i.slot i.watches i.moment i.renewed i.boot i.number c.self.invariant.each c.take.new.self c.args.ticket facts.0 facts.1 facts.2)

pub returns-in-NoSuch : goal.returns-in-NoSuch
returns-in-NoSuch c =
    let i = c.self.inside in
    let facts = c.in-NoSuch.ensures in
    seen _ _ _ _ _ _ c.self.view_is c.refused-in-NoSuch.ensures
    (cancel_no_such_does i.engine i.tickets.items i.slot i.watches i.moment i.renewed i.boot i.number c.self.invariant.each c.take.new.self c.args.ticket facts.0 facts.1)
