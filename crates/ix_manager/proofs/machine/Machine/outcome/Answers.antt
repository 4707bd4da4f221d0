use Rattle.std.proofs.Common.{◌≡◌, ◌+◌, ap, rules, None, Some, refl, sym, ◌∙◌, true≢false}
use Rattle.std.specs.List.{position}
use Rattle.ix_manager.specs.inside.Ready.{has_ticket}
use Rattle.ix_manager.proofs.Stepping.{seen_same, ahead_is, outcome_confirmed_does, outcome_left_out_does, outcome_open_does, outcome_no_such_does, outcome_never_does}
use Rattle.ix_manager.proofs.machine.Machine.outcome.Goals as goal

-- the ticket is kept
pub returns-in-Some : goal.returns-in-Some
returns-in-Some c =
    let i = c.self.inside in
    let kept = c.deref.ensures.value in
    let found : position (has_ticket c.args.ticket.now) i.tickets.items ≡ Some c.in-Some.index = cc in
    seen_same _ _ _ _ _ c.self.view_is refl
    (outcome_confirmed_does i.engine i.tickets.items i.slot i.watches i.moment i.renewed i.boot i.number c.self.invariant.each
    c.args.ticket.now c.in-Some.index _ found (ap (λ n. n + c.in-Some.index + 1) (ahead_is _ _ _ c.ahead.ensures.value c.self.view_is)))

-- it isn't, and its reservation is open
pub returns-then-is_open_with : goal.returns-then-is_open_with
returns-then-is_open_with c =
    let i = c.self.inside in
    let kept = c.deref.ensures.value in
    let none : position (has_ticket c.args.ticket.now) i.tickets.items ≡ None = search rules in
    seen_same _ _ _ _ _ c.self.view_is refl
    (outcome_open_does i.engine i.tickets.items i.slot i.watches i.moment i.renewed i.boot i.number c.self.invariant.each
    c.args.ticket.now none (c.is_open_with.ensures.0 c.if-is_open_with.true))

-- or no ask was granted it
pub returns-then-is_ungranted : goal.returns-then-is_ungranted
returns-then-is_ungranted c =
    let i = c.self.inside in
    let kept = c.deref.ensures.value in
    let none : position (has_ticket c.args.ticket.now) i.tickets.items ≡ None = search rules in
    seen_same _ _ _ _ _ c.self.view_is c.refused.ensures
    (outcome_no_such_does i.engine i.tickets.items i.slot i.watches i.moment i.renewed i.boot i.number c.self.invariant.each
    c.args.ticket.now none (λ open_with. true≢false (sym (c.is_open_with.ensures.1 open_with) ∙ c.if-is_open_with.false))
    (c.is_ungranted.ensures.0 c.if-is_ungranted.true))

pub returns-then-ticket-self : goal.returns-then-ticket-self
returns-then-ticket-self c =
    let i = c.self.inside in
    let kept = c.deref.ensures.value in
    let none : position (has_ticket c.args.ticket.now) i.tickets.items ≡ None = search rules in
    seen_same _ _ _ _ _ c.self.view_is c.refused-then-ticket-self.ensures
    (outcome_left_out_does i.engine i.tickets.items i.slot i.watches i.moment i.renewed i.boot i.number c.self.invariant.each
    c.args.ticket.now none (λ open_with. true≢false (sym (c.is_open_with.ensures.1 open_with) ∙ c.if-is_open_with.false))
    (λ ungranted. true≢false (sym (c.is_ungranted.ensures.1 ungranted) ∙ c.if-is_ungranted.false))
    c.if-ticket-self.true)

pub returns : goal.returns
returns c =
    let i = c.self.inside in
    let kept = c.deref.ensures.value in
    let none : position (has_ticket c.args.ticket.now) i.tickets.items ≡ None = search rules in
    seen_same _ _ _ _ _ c.self.view_is refl
    (outcome_never_does i.engine i.tickets.items i.slot i.watches i.moment i.renewed i.boot i.number c.self.invariant.each
    c.args.ticket.now none (λ open_with. true≢false (sym (c.is_open_with.ensures.1 open_with) ∙ c.if-is_open_with.false))
    (λ ungranted. true≢false (sym (c.is_ungranted.ensures.1 ungranted) ∙ c.if-is_ungranted.false))
    c.if-ticket-self.false)
