use Rattle.std.proofs.Common.{◌∙◌, ap, subst, sym, refl}
use Rattle.ix_lease.specs.inside.Takes.{IsOpenUntil}
use Rattle.ix_proto.specs.Requests as request
use Rattle.ix_proto.specs.declared.reply.Reply.{Reply}
use Rattle.ix_manager.specs.inside.Does.{Does}
use Rattle.ix_manager.specs.inside.Refused.{reply_of}
use Rattle.ix_manager.specs.inside.Core.{Core}
use Rattle.ix_manager.proofs.Stepping.{seen, busy_does, granted_does, refused_does}
use Rattle.ix_manager.proofs.machine.Machine.ask.Goals as goal

pub returns-in-Some : goal.returns-in-Some
returns-in-Some c =
    subst (λ (r : Reply). Does c.args.self.now (request.ask c.args.action c.args.lease) r c.args.self.now) (sym c.refused.ensures)
    (busy_does c.args.self.now c.args.action c.args.lease c.in-Some.deadline
    (subst (λ (core : Core). IsOpenUntil core.state.slot core.state.moment c.in-Some.deadline) c.self.view_is c.in-Some.ensures.up_to))

pub returns-in-Ok : goal.returns-in-Ok
returns-in-Ok c =
    let i = c.self.inside in
    seen _ _ _ _ _ _ c.self.view_is refl
    (granted_does i.engine i.tickets.items i.slot i.watches i.moment i.renewed i.boot i.number c.self.invariant.each c.prepare.new.engine c.prepare.new.tickets.items c.args.action c.args.lease c.deadline_of-deadline.result
    c.prepare.ensures.form c.prepare.ensures.history c.prepare.ensures.limit c.prepare.ensures.tickets
    c.in_default.ensures.none c.in-Ok.ensures.permitted c.deadline_of-deadline.ensures)

pub returns-in-Err : goal.returns-in-Err
returns-in-Err c =
    let i = c.self.inside in
    seen _ _ _ _ _ _ c.self.view_is (c.refused-in-Err.ensures ∙ ap reply_of c.from.ensures)
    (refused_does i.engine i.tickets.items i.slot i.watches i.moment i.renewed i.boot i.number c.self.invariant.each c.prepare.new.engine c.prepare.new.tickets.items c.args.action c.args.lease c.in-Err.why
    c.prepare.ensures.form c.prepare.ensures.history c.prepare.ensures.limit c.prepare.ensures.tickets
    c.in_default.ensures.none c.in-Err.ensures.refused)
