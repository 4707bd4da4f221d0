use Rattle.std.proofs.Common.{◌≡◌, ◌+◌, ◌-◌, ◌<◌, ◌≤◌, get_or, length, refl, sym, subst, arith}
use Rattle.ix_values.specs.PlainAction.{Word}
use Rattle.ix_proto.specs.Requests as request
use Rattle.ix_proto.specs.declared.reply.Reply.{Reply}
use Rattle.ix_manager.specs.Machine.{ahead_of}
use Rattle.ix_manager.specs.inside.Does.{Does}
use Rattle.ix_manager.proofs.Stepping.{seen_same, ahead_is, entry_does, entry_left_out_does, no_entry_does, zeroth_does}
use Rattle.ix_manager.proofs.machine.Machine.log.Goals as goal

pub returns-then-number-eq0 : goal.returns-then-number-eq0
returns-then-number-eq0 c =
    subst (λ (r : Reply). Does c.args.self.now (request.log c.args.number) r c.args.self.now) (sym c.refused.ensures)
    (zeroth_does c.args.self.now c.args.number c.if-number-eq0.true)

pub returns-then-number-self : goal.returns-then-number-self
returns-then-number-self c =
    let i = c.self.inside in
    let some = c.if-number-eq0.false in
    seen_same _ _ _ _ _ c.self.view_is c.refused-then-number-self.ensures
    (entry_left_out_does i.engine i.tickets.items i.slot i.watches i.moment i.renewed i.boot i.number c.self.invariant.each
    c.args.number (omega (arith, some)) c.if-number-self.true)

pub returns-in-Some : goal.returns-in-Some
returns-in-Some c =
    let i = c.self.inside in
    let above = c.if-number-self.false in
    let ahead : c.ahead.result ≡ ahead_of i.renewed = ahead_is _ _ _ c.ahead.ensures.value c.self.view_is in
    let index = c.args.number - c.ahead.result - 1 in
    let next : c.args.number ≡ ahead_of i.renewed + index + 1 = omega (arith, above, ahead) in
    seen_same _ _ _ _ _ c.self.view_is refl
    (entry_does i.engine i.tickets.items i.slot i.watches i.moment i.renewed i.boot i.number c.self.invariant.each c.args.number index c.in-Some.action.now next above
    (subst (λ (w : Word). index < length w) c.history.ensures.value c.in-Some.ensures.lookup.3.0)
    (subst (λ (w : Word). c.in-Some.action.now ≡ get_or w index c.in-Some.action.now) c.history.ensures.value
    (c.in-Some.ensures.lookup.3.1 c.in-Some.action.now)))

pub returns-in-None : goal.returns-in-None
returns-in-None c =
    let i = c.self.inside in
    let above = c.if-number-self.false in
    let ahead : c.ahead.result ≡ ahead_of i.renewed = ahead_is _ _ _ c.ahead.ensures.value c.self.view_is in
    let index = c.args.number - c.ahead.result - 1 in
    let next : c.args.number ≡ ahead_of i.renewed + index + 1 = omega (arith, above, ahead) in
    seen_same _ _ _ _ _ c.self.view_is c.refused-in-None.ensures
    (no_entry_does i.engine i.tickets.items i.slot i.watches i.moment i.renewed i.boot i.number c.self.invariant.each c.args.number index next
    (subst (λ (w : Word). length w ≤ index) c.history.ensures.value c.in-None.ensures.lookup.3))
