-- A tree that the action may not reach is dead; the operands of any other are smaller, and ready to be moved.
use Rattle.std.proofs.Common.{◌≡◌, refl, sym, ap, ◌∙◌, subst, arith}
use Rattle.ix_expr.specs.inside.FormOf.{form_of}
use Rattle.ix_expr.specs.Form.{opt, seq, or, and, couple, any, every, sync}
use Rattle.ix_tree.specs.Plain.{listed, seq as seq_of}
use Rattle.ix_tree.specs.inside.PlainNode.{plain_node}
use Rattle.ix_step.specs.inside.Makes.{Makes}
use Rattle.ix_can.proofs.Spent.{may_ended}
use Rattle.ix_step.proofs.Arms.{asked, opt_ready, or_first, or_second, and_first, and_second, couple_first, couple_second, seq_first, seq_rest, second_small}
use Rattle.ix_step.proofs.Limits.{moved_is_dead}
use Rattle.ix_step.proofs.Measure.{form_size}
use Rattle.ix_step.proofs.MovedIs.{moved_is}
use Rattle.ix_step.proofs.Pruning.{passed, refused, same_passes, and_first_may, and_second_may}
use Rattle.ix_step.proofs.Quantifying.{any_ready, every_ready, sync_ready, every_common, every_each, sync_common, sync_each}
use Rattle.ix_step.proofs.+advance.Goals as goal

pub advance::advance-returns-then-is_ended : goal.advance::advance-returns-then-is_ended
advance::advance-returns-then-is_ended t c =
    let x = form_of c.args.expr.now in
    let may_not = may_ended x c.args.step.env.now c.args.tree.now c.args.step.action.now (sym c.is_ended.ensures ∙ c.if-is_ended.true) in
    subst (λ x. Makes c.args.step.limit x c.dead_knot.result)
    (sym (moved_is_dead x c.args.step.env.now c.args.tree.now c.args.step.action.now may_not)) c.dead_knot.ensures

pub advance::advance-advance_couple-requires : goal.advance::advance-advance_couple-requires
advance::advance-advance_couple-requires t c =
    let is : form_of c.args.expr.now ≡ couple (form_of c.deref.result.now) (form_of c.deref-in-Couple-Couple.result.now) = ap form_of c.in-Couple-Couple.is-0 ∙ ap (λ v. couple (form_of v) (form_of c.in-Couple-Couple.z.value)) (sym c.deref.ensures) ∙ ap (λ v. couple (form_of c.deref.result.now) (form_of v)) (sym c.deref-in-Couple-Couple.ensures) in
    let ready = asked is refl (sym c.node.ensures ∙ ap plain_node c.in-Couple-Couple.is-1) c.requires in
    let size = ap form_size is in (
      omega (arith, size),
      (couple_first ready, couple_second ready),
    )

pub advance::advance-returns-then-not-passes : goal.advance::advance-returns-then-not-passes
advance::advance-returns-then-not-passes t c =
    let x = form_of c.args.expr.now in
    let may_not = refused x c.args.step.env.now c.args.tree.now c.args.step.action.now (sym c.passes.ensures ∙ c.if-not-passes.true) in
    subst (λ x. Makes c.args.step.limit x c.dead_knot-then-not-passes.result)
    (sym (moved_is_dead x c.args.step.env.now c.args.tree.now c.args.step.action.now may_not)) c.dead_knot-then-not-passes.ensures

pub advance::advance_asked-returns : goal.advance::advance_asked-returns
advance::advance_asked-returns t c =
    subst (λ x. Makes c.args.step.limit x c.advance_node.result)
    (sym (moved_is (form_of c.args.expr.now) c.args.step.env.now c.args.tree.now c.args.step.action.now c.requires.ready.fits c.requires.passes)) c.advance_node.ensures

pub advance::advance_node-advance_opt-requires : goal.advance::advance_node-advance_opt-requires
advance::advance_node-advance_opt-requires t c =
    let is : form_of c.args.expr.now ≡ opt (form_of c.deref.result.now) = ap form_of c.in-Opt-Opt.is-0 ∙ ap (λ v. opt (form_of v)) (sym c.deref.ensures) in
    let size = ap form_size is in (
      omega (arith, size),
      opt_ready (asked is refl (sym c.node.ensures ∙ ap plain_node c.in-Opt-Opt.is-1) c.requires.ready),
    )

pub advance::advance_node-advance_seq-requires : goal.advance::advance_node-advance_seq-requires
advance::advance_node-advance_seq-requires t c =
    let is : form_of c.args.expr.now ≡ seq (form_of c.deref-in-Seq-Seq.result.now) (form_of c.deref-in-Seq-Seq-2.result.now) = ap form_of c.in-Seq-Seq.is-0 ∙ ap (λ v. seq (form_of v) (form_of c.in-Seq-Seq.z.value)) (sym c.deref-in-Seq-Seq.ensures) ∙ ap (λ v. seq (form_of c.deref-in-Seq-Seq.result.now) (form_of v)) (sym c.deref-in-Seq-Seq-2.ensures) in
    let tree = sym c.node.ensures ∙ ap plain_node c.in-Seq-Seq.is-1 ∙ ap (λ v. seq_of c.in-Seq-Seq.first c.in-Seq-Seq.field-1-1 (listed v)) (sym c.deref-in-Seq-Seq-3.ensures.value) in
    let ready = asked is refl tree c.requires.ready in
    let size = ap form_size is in (
      omega (arith, size),
      (seq_first ready, (seq_rest c.deref-in-Seq-Seq-3.result.now ready, second_small ready)),
    )

pub advance::advance_node-advance_or-requires : goal.advance::advance_node-advance_or-requires
advance::advance_node-advance_or-requires t c =
    let is : form_of c.args.expr.now ≡ or (form_of c.deref-in-Or-Or.result.now) (form_of c.deref-in-Or-Or-2.result.now) = ap form_of c.in-Or-Or.is-0 ∙ ap (λ v. or (form_of v) (form_of c.in-Or-Or.z.value)) (sym c.deref-in-Or-Or.ensures) ∙ ap (λ v. or (form_of c.deref-in-Or-Or.result.now) (form_of v)) (sym c.deref-in-Or-Or-2.ensures) in
    let ready = asked is refl (sym c.node.ensures ∙ ap plain_node c.in-Or-Or.is-1) c.requires.ready in
    let size = ap form_size is in (
      omega (arith, size),
      (or_first ready, or_second ready),
    )

pub advance::advance_node-advance_and-requires : goal.advance::advance_node-advance_and-requires
advance::advance_node-advance_and-requires t c =
    let y = form_of c.deref-in-And-And.result.now in
    let z = form_of c.deref-in-And-And-2.result.now in
    let e = c.args.step.env.now in
    let a = c.args.step.action.now in
    let is : form_of c.args.expr.now ≡ and y z = ap form_of c.in-And-And.is-0 ∙ ap (λ v. and (form_of v) (form_of c.in-And-And.z.value)) (sym c.deref-in-And-And.ensures) ∙ ap (λ v. and y (form_of v)) (sym c.deref-in-And-And-2.ensures) in
    let tree = sym c.node.ensures ∙ ap plain_node c.in-And-And.is-1 in
    let ready = asked is refl tree c.requires.ready in
    let come = same_passes e a is tree c.requires.passes in
    let size = ap form_size is in (
      omega (arith, size),
      (
        and_first ready,
        (
          and_second ready,
          (
            passed y e c.in-And-And.left a (and_first_may y z e a c.in-And-And.left c.in-And-And.right come),
            passed z e c.in-And-And.right a (and_second_may y z e a c.in-And-And.left c.in-And-And.right come),
          ),
        ),
      ),
    )

pub advance::advance_node-advance_couple-requires : goal.advance::advance_node-advance_couple-requires
advance::advance_node-advance_couple-requires t c =
    let is : form_of c.args.expr.now ≡ couple (form_of c.deref-in-Couple-Couple.result.now) (form_of c.deref-in-Couple-Couple-2.result.now) = ap form_of c.in-Couple-Couple.is-0 ∙ ap (λ v. couple (form_of v) (form_of c.in-Couple-Couple.z.value)) (sym c.deref-in-Couple-Couple.ensures) ∙ ap (λ v. couple (form_of c.deref-in-Couple-Couple.result.now) (form_of v)) (sym c.deref-in-Couple-Couple-2.ensures) in
    let ready = asked is refl (sym c.node.ensures ∙ ap plain_node c.in-Couple-Couple.is-1) c.requires.ready in
    let size = ap form_size is in (
      omega (arith, size),
      (couple_first ready, couple_second ready),
    )

pub advance::advance_node-advance_any-requires : goal.advance::advance_node-advance_any-requires
advance::advance_node-advance_any-requires t c =
    let is : form_of c.args.expr.now ≡ any c.in-Any-Any.parameter (form_of c.deref-in-Any-Any.result.now) = ap form_of c.in-Any-Any.is-0 ∙ ap (λ v. any c.in-Any-Any.parameter (form_of v)) (sym c.deref-in-Any-Any.ensures) in
    let tree = sym c.node.ensures ∙ ap plain_node c.in-Any-Any.is-1 in
    let size = ap form_size is in (
      omega (arith, size),
      any_ready c.in-Any-Any.entries (asked is refl tree c.requires.ready),
    )

pub advance::advance_node-advance_every-requires : goal.advance::advance_node-advance_every-requires
advance::advance_node-advance_every-requires t c =
    let is : form_of c.args.expr.now ≡ every c.in-Every-Every.parameter (form_of c.deref-in-Every-Every.result.now) = ap form_of c.in-Every-Every.is-0 ∙ ap (λ v. every c.in-Every-Every.parameter (form_of v)) (sym c.deref-in-Every-Every.ensures) in
    let tree = sym c.node.ensures ∙ ap plain_node c.in-Every-Every.is-1 in
    let ready = every_ready c.in-Every-Every.entries (asked is refl tree c.requires.ready) in
    let come = same_passes c.args.step.env.now c.args.step.action.now is tree c.requires.passes in
    let size = ap form_size is in (
      omega (arith, size),
      (ready, (every_common c.in-Every-Every.parameter (form_of c.deref-in-Every-Every.result.now) c.args.step.env.now c.args.step.action.now c.in-Every-Every.common c.in-Every-Every.entries come, every_each c.in-Every-Every.parameter (form_of c.deref-in-Every-Every.result.now) c.args.step.env.now c.args.step.action.now c.in-Every-Every.common c.in-Every-Every.entries ready come)),
    )

pub advance::advance_node-advance_sync-requires : goal.advance::advance_node-advance_sync-requires
advance::advance_node-advance_sync-requires t c =
    let is : form_of c.args.expr.now ≡ sync c.in-Sync-Sync.parameter (form_of c.deref-in-Sync-Sync.result.now) = ap form_of c.in-Sync-Sync.is-0 ∙ ap (λ v. sync c.in-Sync-Sync.parameter (form_of v)) (sym c.deref-in-Sync-Sync.ensures) in
    let tree = sym c.node.ensures ∙ ap plain_node c.in-Sync-Sync.is-1 in
    let ready = sync_ready c.in-Sync-Sync.entries (asked is refl tree c.requires.ready) in
    let come = same_passes c.args.step.env.now c.args.step.action.now is tree c.requires.passes in
    let size = ap form_size is in (
      omega (arith, size),
      (ready, (sync_common c.in-Sync-Sync.parameter (form_of c.deref-in-Sync-Sync.result.now) c.args.step.env.now c.args.step.action.now c.in-Sync-Sync.common c.in-Sync-Sync.entries come, sync_each c.in-Sync-Sync.parameter (form_of c.deref-in-Sync-Sync.result.now) c.args.step.env.now c.args.step.action.now c.in-Sync-Sync.common c.in-Sync-Sync.entries ready come)),
    )
