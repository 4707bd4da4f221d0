-- The moved trees of `any $p y`, `every $p y` and `sync $p y`.
use Rattle.std.proofs.Common.{refl, sym, ap, ◌∙◌, subst, arith, length, None}
use Rattle.ix_expr.specs.inside.FormOf.{form_of}
use Rattle.ix_expr.specs.FormFaults.{Fits}
use Rattle.ix_tree.specs.Plain.{any as any_of, every as every_of, sync as sync_of}
use Rattle.ix_tree.specs.Size.{size_of}
use Rattle.ix_can.specs.Nodes.{settled}
use Rattle.ix_expr.specs.Tests.{in_alphabet}
use Rattle.ix_step.specs.inside.Makes.{Makes}
use Rattle.ix_step.specs.inside.Pruned.{pruned}
use Rattle.ix_step.proofs.Exits.{exit_over}
use Rattle.ix_step.proofs.Overs.{any_above, every_above, sync_above}
use Rattle.ix_step.proofs.Quantifying.{any_each}
use Rattle.ix_step.proofs.OwnEntries.{common_stays}
use Rattle.ix_step.proofs.+advance.Goals as goal

pub quantifiers::advance_any-invariant_of-wide : goal.quantifiers::advance_any-invariant_of-wide
quantifiers::advance_any-invariant_of-wide t c = record {
  positive = omega (arith, c.larger.ensures.first, c.args.step.positive);
  bounded = c.larger.ensures.bound 2000010 c.args.step.bounded (omega (arith, c.len.ensures.most, c.requires.small, c.values.ensures.valid.few, ap length c.values.ensures.value));
}

pub quantifiers::advance_any-advance_values-requires : goal.quantifiers::advance_any-advance_values-requires
quantifiers::advance_any-advance_values-requires t c =
    (omega arith, (c.requires, (refl, any_each c.args.body.parameter.now (form_of c.args.body.expr.now) c.args.step.env.now c.args.step.action.now c.args.common.now c.args.entries.now)))

pub quantifiers::advance_any-returns-in_err-common : goal.quantifiers::advance_any-returns-in_err-common
quantifiers::advance_any-returns-in_err-common t c =
    exit_over _ c.from_residual.result _ c.from_residual.ensures.1 c.in_err-common.ensures (λ over.
    any_above c.args.body.parameter.now (form_of c.args.body.expr.now) c.args.step.env.now c.args.step.action.now c.args.common.now c.args.entries.now c.requires c.args.step.limit c.larger.result c.args.step.positive c.larger.ensures.first
    (omega (arith, c.larger.ensures.second, c.len.ensures.number, ap length c.values.ensures.value)) over)

pub quantifiers::advance_any-returns : goal.quantifiers::advance_any-returns
quantifiers::advance_any-returns t c =
    subst (λ x. Makes c.args.step.limit (pruned x) c.within_if_live.result) (λ i. any_of (c.in_ok-common.ensures.0 i) (c.in_ok-common.ensures.1 i)) c.within_if_live.ensures

pub quantifiers::advance_every-advance_values-requires : goal.quantifiers::advance_every-advance_values-requires
quantifiers::advance_every-advance_values-requires t c =
    (omega arith, (c.requires.ready, (c.requires.common, c.requires.each)))

pub quantifiers::advance_every-returns-in_err-common : goal.quantifiers::advance_every-returns-in_err-common
quantifiers::advance_every-returns-in_err-common t c =
    exit_over _ c.from_residual.result _ c.from_residual.ensures.1 c.in_err-common.ensures (λ over.
    every_above c.args.body.parameter.now (form_of c.args.body.expr.now) c.args.step.env.now c.args.step.action.now c.args.common.now c.args.entries.now c.requires.ready c.args.step.limit c.args.step.positive over)

pub quantifiers::advance_every-returns : goal.quantifiers::advance_every-returns
quantifiers::advance_every-returns t c =
    subst (λ x. Makes c.args.step.limit (settled x) c.settled_within.result) (λ i. every_of (c.in_ok-common.ensures.0 i) (c.in_ok-common.ensures.1 i)) c.settled_within.ensures

pub quantifiers::advance_sync-contains-requires : goal.quantifiers::advance_sync-contains-requires
quantifiers::advance_sync-contains-requires t c =
    subst (Fits (form_of c.args.body.expr.now)) (sym c.bind.ensures) (c.requires.ready.fits.body None)

pub quantifiers::advance_sync-advance_values-requires : goal.quantifiers::advance_sync-advance_values-requires
quantifiers::advance_sync-advance_values-requires t c =
    (omega arith, (c.requires.ready, (c.requires.common, c.requires.each)))

pub quantifiers::advance_sync-advance_own-requires : goal.quantifiers::advance_sync-advance_own-requires
quantifiers::advance_sync-advance_own-requires t c =
    let y = form_of c.args.body.expr.now in
    let outside = ap (λ f. in_alphabet y f c.args.step.action.now) (sym c.bind.ensures) ∙ sym c.contains.ensures.test ∙ c.if-contains.false in
    (omega arith, (c.requires.ready, (outside, c.requires.each)))

pub quantifiers::advance_sync-returns-in_err-common : goal.quantifiers::advance_sync-returns-in_err-common
quantifiers::advance_sync-returns-in_err-common t c =
    exit_over _ c.from_residual.result _ c.from_residual.ensures.1 c.in_err-common.ensures (λ over.
    sync_above c.args.body.parameter.now (form_of c.args.body.expr.now) c.args.step.env.now c.args.step.action.now c.args.common.now c.args.entries.now c.requires.ready c.args.step.limit c.args.step.positive over)

pub quantifiers::advance_sync-returns : goal.quantifiers::advance_sync-returns
quantifiers::advance_sync-returns t c =
    let y = form_of c.args.body.expr.now in
    let outside = ap (λ f. in_alphabet y f c.args.step.action.now) (sym c.bind.ensures) ∙ sym c.contains.ensures.test ∙ c.if-contains.false in
    let common = c.in_ok-share.ensures ∙ sym (common_stays c.args.body.parameter.now (form_of c.args.body.expr.now) c.args.step.env.now c.args.step.action.now c.args.common.now c.args.entries.now outside) in
    subst (λ x. Makes c.args.step.limit (settled x) c.settled_within-2.result) (λ i. sync_of (common i) (c.in_ok-entries.ensures.0 i)) c.settled_within-2.ensures

pub quantifiers::advance_sync-returns-in_err-entries : goal.quantifiers::advance_sync-returns-in_err-entries
quantifiers::advance_sync-returns-in_err-entries t c =
    let y = form_of c.args.body.expr.now in
    let outside = ap (λ f. in_alphabet y f c.args.step.action.now) (sym c.bind.ensures) ∙ sym c.contains.ensures.test ∙ c.if-contains.false in
    let common = common_stays c.args.body.parameter.now (form_of c.args.body.expr.now) c.args.step.env.now c.args.step.action.now c.args.common.now c.args.entries.now outside in
    exit_over _ c.from_residual-in_err-entries.result _ c.from_residual-in_err-entries.ensures.1 c.in_err-entries.ensures (λ over.
    sync_above c.args.body.parameter.now (form_of c.args.body.expr.now) c.args.step.env.now c.args.step.action.now c.args.common.now c.args.entries.now c.requires.ready c.args.step.limit c.args.step.positive (omega (arith, ap size_of common, over)))
