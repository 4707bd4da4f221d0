-- What is taken on the way.
use Rattle.std.proofs.Common.{◌≡◌, ◌+◌, ◌<◌, arith, ap, ◌∙◌, map, length, subst, sym}
use Rattle.std.proofs.lemmas.List.{take_all}
use Rattle.std.specs.Prelude.{OnOk, IfErr}
use Rattle.ix_next.specs.declared.menu.MenuFault.TheVariants.{Many}
use Rattle.ix_next.specs.declared.term.Term.TheVariants.{Known}
use Rattle.ix_next.specs.inside.Fillings.{Took, filled, filled_with}
use Rattle.ix_next.proofs.Fillings.{took_none, took_known, took_new, took_same, many_known, many_new, filled_fixed, filled_again, filled_first}
use Rattle.ix_next.proofs.fill.+fill.Goals as goal

pub fill_known-loop-value-init : goal.fill_known-loop-value-init
fill_known-loop-value-init n c = took_none c.args.scope.now c.args.tray.now c.requires.room

pub fill_known-returns-in-Err-clause-many : goal.fill_known-returns-in-Err-clause-many
fill_known-returns-in-Err-clause-many n c = λ many.
    subst (λ w. c.args.scope.now.limit < c.args.tray.now.seen + length (filled_with c.args.scope.now c.args.rest.now c.args.filling.now c.args.parameter.now (map Known w)))
    (c.deref-value-items.ensures.value ∙ c.in-Ok.ensures)
    (many_known c.args.scope.now c.args.rest.now c.args.filling.now c.args.parameter.now c.args.tray.now c.loop-value.tray
    c.deref-value-items.result.now c.loop-value.value-index c.value-item.result c.loop-value-test.true c.value-item.is c.loop-value.invariant
    (subst (λ g. c.args.scope.now.limit < c.loop-value.tray.seen + length (filled c.args.scope.now c.args.rest.now g)) c.first-next.ensures (c.in-Err.ensures.many many)))

pub fill_known-loop-value-preserved : goal.fill_known-loop-value-preserved
fill_known-loop-value-preserved n c =
    took_known c.args.scope.now c.args.rest.now c.args.filling.now c.args.parameter.now c.args.tray.now c.loop-value.tray c.fill.new.tray
    c.deref-value-items.result.now c.loop-value.value-index c.value-item.result c.loop-value-test.true c.value-item.is c.loop-value.invariant
    (subst (λ g. Took c.args.scope.now c.loop-value.tray c.fill.new.tray (filled c.args.scope.now c.args.rest.now g)) c.first-next.ensures c.in-Ok-fill.ensures.took)

pub fill_known-returns-clause-took : goal.fill_known-returns-clause-took
fill_known-returns-clause-took n c =
    took_same c.args.scope.now c.args.tray.now c.loop-value.tray _ _
    (ap (λ w. filled_with c.args.scope.now c.args.rest.now c.args.filling.now c.args.parameter.now (map Known w))
    (take_all c.loop-value.value-index c.deref-value-items.result.now (omega (arith, c.loop-value-test.false)) ∙ c.deref-value-items.ensures.value ∙ c.in-Ok.ensures))
    c.loop-value.invariant

pub fill_new-returns-in-Err-clause-many : goal.fill_new-returns-in-Err-clause-many
fill_new-returns-in-Err-clause-many n c = λ many.
    many_new c.args.scope.now c.args.rest.now c.args.filling.now c.args.parameter.now c.args.tray.now c.loop-before.tray
    (c.args.filling.now.news + 1) c.loop-before.before c.loop-before-test.true c.loop-before.invariant
    (subst (λ g. c.args.scope.now.limit < c.loop-before.tray.seen + length (filled c.args.scope.now c.args.rest.now g)) c.first-next.ensures (c.in-Err.ensures.many many))

pub fill_new-loop-before-preserved : goal.fill_new-loop-before-preserved
fill_new-loop-before-preserved n c =
    took_new c.args.scope.now c.args.rest.now c.args.filling.now c.args.parameter.now c.args.tray.now c.loop-before.tray c.fill.new.tray
    c.loop-before.before c.loop-before.invariant
    (subst (λ g. Took c.args.scope.now c.loop-before.tray c.fill.new.tray (filled c.args.scope.now c.args.rest.now g)) c.first-next.ensures c.in-Ok.ensures.took)

pub fill_again-returns-clause-took : goal.fill_again-returns-clause-took
fill_again-returns-clause-took n c =
    subst (λ w. OnOk c.fill.result (Took c.args.scope.now c.args.tray.now c.fill.new.tray w))
    (ap (filled c.args.scope.now c.args.rest.now) c.again-next.ensures
    ∙ sym (filled_again c.args.scope.now c.args.own.now.0 c.args.own.now.1 c.args.rest.now c.args.filling.now c.requires.own))
    c.fill.ensures.took

pub fill_again-returns-clause-many : goal.fill_again-returns-clause-many
fill_again-returns-clause-many n c =
    subst (λ w. IfErr c.fill.result (λ fault. fault ≡ Many → c.args.scope.now.limit < c.args.tray.now.seen + length w))
    (ap (filled c.args.scope.now c.args.rest.now) c.again-next.ensures
    ∙ sym (filled_again c.args.scope.now c.args.own.now.0 c.args.own.now.1 c.args.rest.now c.args.filling.now c.requires.own))
    c.fill.ensures.many

pub fill_fixed-returns-clause-took : goal.fill_fixed-returns-clause-took
fill_fixed-returns-clause-took n c =
    subst (λ w. OnOk c.fill.result (Took c.args.scope.now c.args.tray.now c.fill.new.tray w))
    (ap (filled c.args.scope.now c.args.rest.now) c.fixed-next.ensures
    ∙ sym (filled_fixed c.args.scope.now c.args.value.now c.args.rest.now c.args.filling.now))
    c.fill.ensures.took

pub fill_param-returns-in-None-clause-took : goal.fill_param-returns-in-None-clause-took
fill_param-returns-in-None-clause-took n c =
    subst (λ w. OnOk c.fill_first.result (Took c.args.scope.now c.args.tray.now c.fill_first.new.tray w))
    (sym (filled_first c.args.scope.now c.args.parameter.now c.args.rest.now c.args.filling.now (sym c.get.ensures ∙ c.in-None.is)))
    c.fill_first.ensures.took

pub fill_param-returns-in-None-clause-many : goal.fill_param-returns-in-None-clause-many
fill_param-returns-in-None-clause-many n c =
    subst (λ w. IfErr c.fill_first.result (λ fault. fault ≡ Many → c.args.scope.now.limit < c.args.tray.now.seen + length w))
    (sym (filled_first c.args.scope.now c.args.parameter.now c.args.rest.now c.args.filling.now (sym c.get.ensures ∙ c.in-None.is)))
    c.fill_first.ensures.many
