use Rattle.std.proofs.Common.{◌≡◌, ◌<◌, ℕ, rules, [], ◌∷◌, ◌++◌, Some, refl, sym, subst, ap, ◌∙◌}
use Rattle.ix_lease.specs.declared.Slot.TheVariants.{Free, Held}
use Rattle.ix_manager.specs.inside.Core.{Core}
use Rattle.ix_manager.proofs.Stepping.{seen, ready_action, confirmed_does}
use Rattle.ix_manager.proofs.machine.Machine.commit.Goals as goal

pub returns-clause-commits : goal.returns-clause-commits
returns-clause-commits c = λ a deadline held within.
    let i = c.self.inside in
    let ticket = c.args.ticket in
    let slot : i.slot ≡ Held ticket a deadline = ap (λ (core : Core). core.state.slot) c.self.view_is ∙ held in
    let open_still : i.moment < deadline = subst (λ (n : ℕ). n < deadline) (sym (ap (λ (core : Core). core.state.moment) c.self.view_is)) within in
    let pending : i.pending ≡ Some c.in-Some.next = cc in
    let tickets : c.push-pushed.new.self.items ≡ i.tickets.items ++ Some ticket ∷ [] = search rules in
    seen _ _ _ _ _ _ c.self.view_is refl
    (confirmed_does i.engine i.tickets.items i.slot i.watches i.moment i.renewed i.boot i.number c.self.invariant.each
    c.commit.new.self c.push-pushed.new.self.items Free ticket a c.in-Some.next.action
    deadline c.count.result c.commit.ensures.form c.commit.ensures.limit c.commit.ensures.history tickets
    (ready_action i.engine i.tickets i.slot i.pending ticket a deadline c.in-Some.next c.self.invariant.ready slot pending)
    c.count.ensures.value slot open_still refl)
