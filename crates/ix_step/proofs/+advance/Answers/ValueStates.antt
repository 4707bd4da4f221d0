-- The common state and the states of the values after the action, and the entries of those that differ.
use Rattle.std.proofs.Common.{◌<◌, ◌≡◌, true, sym, ap, ◌∙◌, subst, arith, [], ◌∷◌, ◌++◌, map, length, take, Some, true≢false}
use Rattle.ix_words.specs.Each.{here}
use Rattle.ix_words.proofs.Each.{Member-right, Each-member}
use Rattle.std.proofs.Math.Seq.{take-length}
use Rattle.ix_expr.specs.inside.FormOf.{form_of}
use Rattle.ix_expr.specs.Environment.{bind}
use Rattle.ix_tree.specs.Plain.{listed}
use Rattle.ix_tree.specs.PlainOf.{plain_entry, plain_entries}
use Rattle.ix_tree.specs.Size.{size_of}
use Rattle.ix_tree.specs.contracts.order.KnotPartialEq.TheImpl.{ghosts as tree_ghosts}
use Rattle.ix_tree.proofs.PlainLists.{items_of-listed}
use Rattle.ix_can.specs.Laws.{IsProper}
use Rattle.ix_can.specs.May.{may, tree_at}
use Rattle.ix_can.specs.inside.Moved.{moved}
use Rattle.ix_step.specs.inside.EnterTrees.{entries_put}
use Rattle.ix_step.specs.inside.Makes.{Makes}
use Rattle.ix_step.specs.inside.ValueTrees.{part_may, moved_part, tree_after, TakesIn}
use Rattle.ix_can.proofs.Spent.{may_ended}
use Rattle.ix_step.proofs.EntriesPut.{nothing_proper, nothing_held, after_put, upto_size, value_size, keys_ascend}
use Rattle.ix_step.proofs.Exits.{exit_over}
use Rattle.ix_step.proofs.Limits.{moved_is_dead, inside_over}
use Rattle.ix_step.proofs.Pruning.{passed}
use Rattle.ix_step.proofs.Quantifying.{value_ready, value_moves, at_ready}
use Rattle.ix_step.proofs.SeenValues.{item_among, entries_are}
use Rattle.ix_step.proofs.+advance.Goals as goal
use Rattle.ix_step.proofs.+advance.Goals.{quantifiers::advance_at-in-All, quantifiers::advance_at-in_default}

pub quantifiers::advance_values-advance_at-requires : goal.quantifiers::advance_values-advance_at-requires
quantifiers::advance_values-advance_at-requires t c =
    (omega arith, (c.requires.ready.fits, (c.requires.ready.proper, (omega (arith, c.requires.ready.small), c.requires.common))))

pub quantifiers::advance_entries-loop-value-init : goal.quantifiers::advance_entries-loop-value-init
quantifiers::advance_entries-loop-value-init t c =
    record {
      proper = nothing_proper tree_ghosts.eq c.args.next.now c.new-built.result.items c.new-built.ensures.items;
      held = nothing_held c.args.next.now (tree_after c.args.reach c.args.body.parameter.now (form_of c.args.body.expr.now) c.args.step.env.now c.args.step.action.now c.args.common.now (map plain_entry c.args.entries.now)) c.new-built.result.items c.new-built.ensures.items;
      within = omega arith;
    }

pub quantifiers::advance_entries-state_at-state-requires : goal.quantifiers::advance_entries-state_at-state-requires
quantifiers::advance_entries-state_at-state-requires t c =
    keys_ascend c.args.entries.now c.requires.ready.beside.ascending

pub quantifiers::advance_entries-advance_at-requires : goal.quantifiers::advance_entries-advance_at-requires
quantifiers::advance_entries-advance_at-requires t c =
    let r = value_ready c.args.body.parameter.now (form_of c.args.body.expr.now) c.args.step.env.now c.args.common.now c.args.entries.now c.value-item.result c.requires.ready in
    let takes = subst (TakesIn (form_of c.args.body.expr.now) c.args.body.parameter.now c.args.step.action.now c.args.entries.now) (sym c.deref-value-items.ensures.value) c.in_ok-values.ensures in
    let among = item_among c.deref-value-items.result.now c.loop-value.value-index c.value-item.result (omega arith) c.value-item.is in
    let own = Each-member c.requires.each (takes.within c.value-item.result among) in
    let state = c.state_at-state.ensures ∙ ap (tree_at c.value-item.result c.args.common.now) (items_of-listed (map plain_entry c.args.entries.now)) in
    let may_come = ap (part_may c.args.reach (form_of c.args.body.expr.now) (bind c.args.body.parameter.now (Some c.value-item.result) c.args.step.env.now) c.args.step.action.now) state ∙ own in (
      omega arith,
      (
        c.requires.ready.fits,
        (
          subst (IsProper (form_of c.args.body.expr.now)) (sym c.state_at-state.ensures) r.proper,
          (omega (arith, ap size_of c.state_at-state.ensures, r.small), may_come),
        ),
      ),
    )

pub quantifiers::advance_entries-returns-in_err-tree : goal.quantifiers::advance_entries-returns-in_err-tree
quantifiers::advance_entries-returns-in_err-tree t c =
    let takes = subst (TakesIn (form_of c.args.body.expr.now) c.args.body.parameter.now c.args.step.action.now c.args.entries.now) (sym c.deref-value-items.ensures.value) c.in_ok-values.ensures in
    let whole = entries_are c.args.reach c.args.body.parameter.now (form_of c.args.body.expr.now) c.args.step.env.now c.args.step.action.now c.args.common.now c.args.entries.now c.args.next.now c.deref-value-items.result.now c.requires.ready c.requires.next takes in
    let same = value_moves c.args.reach c.args.body.parameter.now (form_of c.args.body.expr.now) c.args.step.env.now c.args.step.action.now c.args.common.now c.args.entries.now c.value-item.result c.state_at-state.result.now c.state_at-state.ensures in
    let lt : c.loop-value.value-index < length c.deref-value-items.result.now = omega arith in
    let k = value_size c.args.next.now (tree_after c.args.reach c.args.body.parameter.now (form_of c.args.body.expr.now) c.args.step.env.now c.args.step.action.now c.args.common.now (map plain_entry c.args.entries.now)) (take c.loop-value.value-index c.deref-value-items.result.now ++ c.value-item.result ∷ []) c.value-item.result (Member-right (take c.loop-value.value-index c.deref-value-items.result.now) here) in
    let n = upto_size c.args.next.now (tree_after c.args.reach c.args.body.parameter.now (form_of c.args.body.expr.now) c.args.step.env.now c.args.step.action.now c.args.common.now (map plain_entry c.args.entries.now)) c.deref-value-items.result.now c.loop-value.value-index c.value-item.result lt c.value-item.is in
    exit_over _ c.from_residual-in_err-tree.result _ c.from_residual-in_err-tree.ensures.1 c.in_err-tree.ensures (λ over.
    omega (arith, ap size_of whole, ap size_of same, k, n, over))

pub quantifiers::advance_entries-put_tree-requires-clause-proper : goal.quantifiers::advance_entries-put_tree-requires-clause-proper
quantifiers::advance_entries-put_tree-requires-clause-proper t c =
    c.loop-value.invariant.proper

pub quantifiers::advance_entries-put_tree-requires-clause-within : goal.quantifiers::advance_entries-put_tree-requires-clause-within
quantifiers::advance_entries-put_tree-requires-clause-within t c =
    c.loop-value.invariant.within

pub quantifiers::advance_entries-returns-in_err-total : goal.quantifiers::advance_entries-returns-in_err-total
quantifiers::advance_entries-returns-in_err-total t c =
    let takes = subst (TakesIn (form_of c.args.body.expr.now) c.args.body.parameter.now c.args.step.action.now c.args.entries.now) (sym c.deref-value-items.ensures.value) c.in_ok-values.ensures in
    let whole = entries_are c.args.reach c.args.body.parameter.now (form_of c.args.body.expr.now) c.args.step.env.now c.args.step.action.now c.args.common.now c.args.entries.now c.args.next.now c.deref-value-items.result.now c.requires.ready c.requires.next takes in
    let same = value_moves c.args.reach c.args.body.parameter.now (form_of c.args.body.expr.now) c.args.step.env.now c.args.step.action.now c.args.common.now c.args.entries.now c.value-item.result c.state_at-state.result.now c.state_at-state.ensures in
    let lt : c.loop-value.value-index < length c.deref-value-items.result.now = omega arith in
    let n = upto_size c.args.next.now (tree_after c.args.reach c.args.body.parameter.now (form_of c.args.body.expr.now) c.args.step.env.now c.args.step.action.now c.args.common.now (map plain_entry c.args.entries.now)) c.deref-value-items.result.now c.loop-value.value-index c.value-item.result lt c.value-item.is in
    exit_over _ c.from_residual-in_err-total.result _ c.from_residual-in_err-total.ensures.1
    (c.in_err-total.ensures.entered (tree_after c.args.reach c.args.body.parameter.now (form_of c.args.body.expr.now) c.args.step.env.now c.args.step.action.now c.args.common.now (map plain_entry c.args.entries.now)) (take c.loop-value.value-index c.deref-value-items.result.now) c.loop-value.invariant.held (c.in_ok-tree.ensures.0 ∙ same)) (λ over.
    omega (arith, ap size_of whole, n, over))

pub quantifiers::advance_entries-loop-value-preserved : goal.quantifiers::advance_entries-loop-value-preserved
quantifiers::advance_entries-loop-value-preserved t c =
    let same = value_moves c.args.reach c.args.body.parameter.now (form_of c.args.body.expr.now) c.args.step.env.now c.args.step.action.now c.args.common.now c.args.entries.now c.value-item.result c.state_at-state.result.now c.state_at-state.ensures in
    let k = c.in_ok-total.ensures.entered (tree_after c.args.reach c.args.body.parameter.now (form_of c.args.body.expr.now) c.args.step.env.now c.args.step.action.now c.args.common.now (map plain_entry c.args.entries.now)) (take c.loop-value.value-index c.deref-value-items.result.now) c.loop-value.invariant.held (c.in_ok-tree.ensures.0 ∙ same) in
    record {
      proper = c.put_tree.ensures.proper;
      held = after_put c.args.next.now (tree_after c.args.reach c.args.body.parameter.now (form_of c.args.body.expr.now) c.args.step.env.now c.args.step.action.now c.args.common.now (map plain_entry c.args.entries.now)) c.deref-value-items.result.now c.loop-value.value-index c.value-item.result c.put_tree.new.entries.items c.in_ok-total.total (omega arith) c.value-item.is k.0;
      within = k.1;
    }

pub quantifiers::advance_entries-returns : goal.quantifiers::advance_entries-returns
quantifiers::advance_entries-returns t c =
    let takes = subst (TakesIn (form_of c.args.body.expr.now) c.args.body.parameter.now c.args.step.action.now c.args.entries.now) (sym c.deref-value-items.ensures.value) c.in_ok-values.ensures in
    let whole = entries_are c.args.reach c.args.body.parameter.now (form_of c.args.body.expr.now) c.args.step.env.now c.args.step.action.now c.args.common.now c.args.entries.now c.args.next.now c.deref-value-items.result.now c.requires.ready c.requires.next takes in
    let all : c.loop-value.value-index ≡ length c.deref-value-items.result.now = omega (arith, c.loop-value-test.false, c.loop-value.auto.value-index-end) in
    let held = c.loop-value.invariant.held in
    let items = held.items ∙ ap (λ n. entries_put c.args.next.now (tree_after c.args.reach c.args.body.parameter.now (form_of c.args.body.expr.now) c.args.step.env.now c.args.step.action.now c.args.common.now (map plain_entry c.args.entries.now)) (take n c.deref-value-items.result.now)) all ∙ ap (entries_put c.args.next.now (tree_after c.args.reach c.args.body.parameter.now (form_of c.args.body.expr.now) c.args.step.env.now c.args.step.action.now c.args.common.now (map plain_entry c.args.entries.now))) (take-length c.deref-value-items.result.now) in
    let same = ap listed items ∙ sym whole in
    (ap plain_entries c.in_ok-of.ensures ∙ same, omega (arith, ap size_of same, held.counted, c.loop-value.invariant.within))

pub quantifiers::advance_at-advance-requires : goal.quantifiers::advance_at-advance-requires
quantifiers::advance_at-advance-requires t c =
    (omega arith, at_ready c.args.value c.bind.new.self c.bind.ensures c.requires.fits c.requires.proper c.requires.small)

pub quantifiers::advance_at-advance_asked-requires : goal.quantifiers::advance_at-advance_asked-requires
quantifiers::advance_at-advance_asked-requires t c =
    let y = form_of c.args.body.expr.now in
    let must = subst (λ r. part_may r y (bind c.args.body.parameter.now c.args.value c.args.step.env.now) c.args.step.action.now c.args.state.now ≡ true) c.in-Must.is c.requires.may in (
      omega arith,
      (at_ready c.args.value c.bind.new.self c.bind.ensures c.requires.fits c.requires.proper c.requires.small, passed y c.bind.new.self c.args.state.now c.args.step.action.now (ap (λ f. may y f c.args.state.now c.args.step.action.now) c.bind.ensures ∙ must)),
    )

pub quantifiers::advance_at-advance_side-requires : goal.quantifiers::advance_at-advance_side-requires
quantifiers::advance_at-advance_side-requires t c =
    (omega arith, at_ready c.args.value c.bind.new.self c.bind.ensures c.requires.fits c.requires.proper c.requires.small)

pub quantifiers::advance_at-returns-in_err-advance_side-in-OwnAlphabet : goal.quantifiers::advance_at-returns-in_err-advance_side-in-OwnAlphabet
quantifiers::advance_at-returns-in_err-advance_side-in-OwnAlphabet t c =
    let y = form_of c.args.body.expr.now in
    let e = bind c.args.body.parameter.now c.args.value c.args.step.env.now in
    let a = c.args.step.action.now in
    exit_over _ c.from_residual.result _ c.from_residual.ensures.1 (c.in_err-advance_side-in-OwnAlphabet).ensures (λ lt.
    subst (λ r. c.args.step.limit < size_of (moved_part r y e a c.args.state.now)) (sym c.in-OwnAlphabet.is)
    (inside_over y e c.args.state.now a c.args.step.limit c.args.step.positive
    (subst (λ f. c.args.step.limit < size_of (moved y f c.args.state.now a)) c.bind.ensures lt)))

pub quantifiers::advance_at-returns-then-is_ended : goal.quantifiers::advance_at-returns-then-is_ended
quantifiers::advance_at-returns-then-is_ended t c =
    let y = form_of c.args.body.expr.now in
    let e = bind c.args.body.parameter.now c.args.value c.args.step.env.now in
    let stuck = moved_is_dead y e c.args.state.now c.args.step.action.now (may_ended y e c.args.state.now c.args.step.action.now (sym c.is_ended.ensures ∙ c.if-is_ended.true)) in
    elim c.match-matches.branch [
      | quantifiers::advance_at-in-All w ↦
          subst (λ x. Makes c.args.step.limit x c.dead_knot.result)
          (sym (ap (λ r. moved_part r y e c.args.step.action.now c.args.state.now) w.in-All.is ∙ stuck)) c.dead_knot.ensures
      | quantifiers::advance_at-in_default w ↦ absurd (true≢false (sym c.if-matches.true ∙ w.matches-is))
    ]
