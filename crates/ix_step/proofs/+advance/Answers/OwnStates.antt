-- The states of `sync $p y` where only the action's own values may move.
use Rattle.std.proofs.Common.{◌≡◌, ◌+◌, ◌-◌, refl, sym, ap, ◌∙◌, subst, arith, [], map, length, take, drop, get_or, Some}
use Rattle.std.specs.Cmp.{nat_cmp_total}
use Rattle.std.specs.Cmp.Lexicographic.{lists_total}
use Rattle.std.specs.Map.{keys_of}
use Rattle.ix_words.proofs.Each.{Member-right, Each-member}
use Rattle.std.proofs.Math.Seq.{drop-length}
use Rattle.std.proofs.lemmas.Grind.{get_or_after_one}
use Rattle.std.proofs.lemmas.List.{take_rest, length-drop, nil_from_length}
use Rattle.ix_entries.proofs.Changes.{changed}
use Rattle.ix_expr.specs.inside.FormOf.{form_of}
use Rattle.ix_expr.specs.Environment.{bind}
use Rattle.ix_tree.specs.Plain.{more}
use Rattle.ix_tree.specs.PlainOf.{plain_entry, plain_entries}
use Rattle.ix_tree.specs.Size.{size_of}
use Rattle.ix_tree.specs.contracts.order.KnotPartialEq.TheImpl.{ghosts as tree_ghosts}
use Rattle.ix_tree.proofs.PlainLists.{items_of-listed}
use Rattle.ix_can.specs.Laws.{IsProper}
use Rattle.ix_can.specs.May.{tree_at}
use Rattle.ix_step.specs.declared.bodies.Reach.TheVariants.{OwnAlphabet}
use Rattle.ix_step.specs.inside.ValueTrees.{part_may, moved_part, common_after, tree_after, entries_after, touched}
use Rattle.ix_step.proofs.EntriesPut.{value_size, keys_ascend}
use Rattle.ix_step.proofs.Exits.{made_as}
use Rattle.ix_step.proofs.Quantifying.{value_ready, entries_touched, value_moves}
use Rattle.ix_step.proofs.Mapping.{copy_proper}
use Rattle.ix_step.proofs.OwnEntries.{GivesAll, common_stays, before_own, one_given, all_given, one_more_size}
use Rattle.ix_step.proofs.SameTrees.{same_trees}
use Rattle.ix_step.proofs.SeenValues.{item_among}
use Rattle.ix_can.proofs.Keys.{entries_ascend}
use Rattle.ix_step.proofs.+advance.Goals as goal

pub quantifiers::advance_own-returns-in_ok-share-in-empty : goal.quantifiers::advance_own-returns-in_ok-share-in-empty
quantifiers::advance_own-returns-in_ok-share-in-empty t c =
    let entries = c.in_ok-share-in-empty.field-0 in
    let none : c.args.step.action.now.values ≡ [] = nil_from_length c.args.step.action.now.values (omega (arith, c.in-empty.len_below, ap length c.values.ensures.value)) in
    let proper = copy_proper c.args.common.now entries (map plain_entry c.args.entries.now) (ap (map plain_entry) c.in_ok-share-in-empty.ensures) c.requires.ready.beside in
    let given = subst (λ l. GivesAll c.args.common.now (tree_after OwnAlphabet c.args.body.parameter.now (form_of c.args.body.expr.now) c.args.step.env.now c.args.step.action.now c.args.common.now (map plain_entry c.args.entries.now)) l entries) none (before_own c.args.body.parameter.now (form_of c.args.body.expr.now) c.args.step.env.now c.args.step.action.now c.args.common.now c.args.entries.now entries c.requires.outside c.in_ok-share-in-empty.ensures) in
    let same = all_given tree_ghosts.eq same_trees c.args.common.now c.args.body.parameter.now (form_of c.args.body.expr.now) c.args.step.env.now c.args.step.action.now c.args.entries.now entries c.requires.ready c.requires.outside proper given in
    (sym same, omega (arith, ap size_of same, ap (λ l. size_of (plain_entries l)) c.in_ok-share-in-empty.ensures, c.requires.ready.small))

pub quantifiers::advance_own-advance_own_at-requires : goal.quantifiers::advance_own-advance_own_at-requires
quantifiers::advance_own-advance_own_at-requires t c =
    let among = item_among c.args.step.action.now.values 0 c.first-item.result (omega (arith, c.in-len1-up.len_at_least, ap length c.values.ensures.value)) (c.first-item.is ∙ ap (λ l. get_or l 0 c.first-item.result) c.values.ensures.value) in
    (omega arith, (c.requires.ready, (c.requires.outside, (c.requires.each, among))))

pub quantifiers::advance_own-with-requires : goal.quantifiers::advance_own-with-requires
quantifiers::advance_own-with-requires t c =
    keys_ascend c.args.entries.now c.requires.ready.beside.ascending

pub quantifiers::advance_own-loop-value-init : goal.quantifiers::advance_own-loop-value-init
quantifiers::advance_own-loop-value-init t c =
    let own = c.in_ok-own-in-len1-up.own in
    let values = c.args.step.action.now.values in
    let later : drop 1 values ≡ take (length c.values.result.now - 1) (drop 1 c.values.result.now) = ap (drop 1) (sym c.values.ensures.value) ∙ sym (take_rest c.values.result.now 1) in
    let proper = copy_proper c.args.common.now c.args.entries.now (map plain_entry c.args.entries.now) refl c.requires.ready.beside in
    let k = changed (lists_total nat_cmp_total) tree_ghosts.eq c.args.common.now c.args.entries.now c.first-item.result c.in_ok-tree-in-len1-up.tree own proper c.in_ok-own-in-len1-up.ensures in
    let grown = one_more_size tree_ghosts.eq same_trees c.args.common.now c.args.entries.now c.first-item.result c.in_ok-tree-in-len1-up.tree own (entries_ascend c.args.entries.now proper.ascending) c.in_ok-own-in-len1-up.ensures in
    record {
      proper = k.proper;
      given = subst (λ l. GivesAll c.args.common.now (tree_after OwnAlphabet c.args.body.parameter.now (form_of c.args.body.expr.now) c.args.step.env.now c.args.step.action.now c.args.common.now (map plain_entry c.args.entries.now)) l own) later
          (one_given tree_ghosts.eq same_trees c.args.common.now (tree_after OwnAlphabet c.args.body.parameter.now (form_of c.args.body.expr.now) c.args.step.env.now c.args.step.action.now c.args.common.now (map plain_entry c.args.entries.now)) values 0 c.first-item.result c.in_ok-tree-in-len1-up.tree c.args.entries.now own
          (omega (arith, c.in-len1-up.len_at_least, ap length c.values.ensures.value)) (c.first-item.is ∙ ap (λ l. get_or l 0 c.first-item.result) c.values.ensures.value)
          c.in_ok-tree-in-len1-up.ensures.0 k.itself k.others (before_own c.args.body.parameter.now (form_of c.args.body.expr.now) c.args.step.env.now c.args.step.action.now c.args.common.now c.args.entries.now c.args.entries.now c.requires.outside refl));
      small = omega (arith, grown, c.requires.ready.small, ap size_of c.in_ok-tree-in-len1-up.ensures.0, c.in_ok-tree-in-len1-up.ensures.1, c.args.step.bounded);
    }

pub quantifiers::advance_own-advance_own_at-requires-in-loop-value : goal.quantifiers::advance_own-advance_own_at-requires-in-loop-value
quantifiers::advance_own-advance_own_at-requires-in-loop-value t c =
    let i = c.loop-value.value-index in
    let v = c.value-item.result in
    let at = c.value-item.is ∙ ap (λ l. get_or l i v) (take_rest c.values.result.now 1) ∙ get_or_after_one c.values.result.now i v ∙ ap (λ l. get_or l (1 + i) v) c.values.ensures.value in
    let among = item_among c.args.step.action.now.values (1 + i) v (omega (arith, c.in-len1-up.len_at_least, c.loop-value-test.true, ap length c.values.ensures.value)) at in
    (omega arith, (c.requires.ready, (c.requires.outside, (c.requires.each, among))))

pub quantifiers::advance_own-with-requires-in-loop-value : goal.quantifiers::advance_own-with-requires-in-loop-value
quantifiers::advance_own-with-requires-in-loop-value t c = c.loop-value.invariant.proper.ascending

pub quantifiers::advance_own-loop-value-preserved : goal.quantifiers::advance_own-loop-value-preserved
quantifiers::advance_own-loop-value-preserved t c =
    let later = take (length c.values.result.now - 1) (drop 1 c.values.result.now) in
    let rest : length later ≡ length c.values.result.now - 1 = ap length (take_rest c.values.result.now 1) ∙ length-drop 1 c.values.result.now in
    let old = c.loop-value.own in
    let own = c.in_ok-own-in-len1-up-2.own in
    let proper = c.loop-value.invariant.proper in
    let k = changed (lists_total nat_cmp_total) tree_ghosts.eq c.args.common.now old c.value-item.result c.in_ok-tree-in-len1-up-2.tree own proper c.in_ok-own-in-len1-up-2.ensures in
    let grown = one_more_size tree_ghosts.eq same_trees c.args.common.now old c.value-item.result c.in_ok-tree-in-len1-up-2.tree own (entries_ascend old proper.ascending) c.in_ok-own-in-len1-up-2.ensures in
    record {
      proper = k.proper;
      given = one_given tree_ghosts.eq same_trees c.args.common.now (tree_after OwnAlphabet c.args.body.parameter.now (form_of c.args.body.expr.now) c.args.step.env.now c.args.step.action.now c.args.common.now (map plain_entry c.args.entries.now)) later c.loop-value.value-index c.value-item.result c.in_ok-tree-in-len1-up-2.tree old own
          (omega (arith, c.loop-value-test.true, rest)) c.value-item.is
          c.in_ok-tree-in-len1-up-2.ensures.0 k.itself k.others c.loop-value.invariant.given;
      small = omega (arith, grown, c.loop-value.invariant.small, ap size_of c.in_ok-tree-in-len1-up-2.ensures.0, c.in_ok-tree-in-len1-up-2.ensures.1, c.args.step.bounded);
    }

pub quantifiers::advance_own-returns-after-loop-value : goal.quantifiers::advance_own-returns-after-loop-value
quantifiers::advance_own-returns-after-loop-value t c =
    let later = take (length c.values.result.now - 1) (drop 1 c.values.result.now) in
    let rest : length later ≡ length c.values.result.now - 1 = ap length (take_rest c.values.result.now 1) ∙ length-drop 1 c.values.result.now in
    let all : c.loop-value.value-index ≡ length later = omega (arith, c.loop-value-test.false, c.loop-value.auto.value-index-end, rest) in
    let none : drop c.loop-value.value-index later ≡ [] = ap (λ n. drop n later) all ∙ drop-length later in
    let given = subst (λ l. GivesAll c.args.common.now (tree_after OwnAlphabet c.args.body.parameter.now (form_of c.args.body.expr.now) c.args.step.env.now c.args.step.action.now c.args.common.now (map plain_entry c.args.entries.now)) l c.loop-value.own) none c.loop-value.invariant.given in
    let same = all_given tree_ghosts.eq same_trees c.args.common.now c.args.body.parameter.now (form_of c.args.body.expr.now) c.args.step.env.now c.args.step.action.now c.args.entries.now c.loop-value.own c.requires.ready c.requires.outside c.loop-value.invariant.proper given in
    (sym same, omega (arith, ap size_of same, c.loop-value.invariant.small, all, rest, ap length c.values.ensures.value, c.values.ensures.valid.few))

pub quantifiers::advance_own_at-state_at-state-requires : goal.quantifiers::advance_own_at-state_at-state-requires
quantifiers::advance_own_at-state_at-state-requires t c =
    keys_ascend c.args.entries.now c.requires.ready.beside.ascending

pub quantifiers::advance_own_at-advance_at-requires : goal.quantifiers::advance_own_at-advance_at-requires
quantifiers::advance_own_at-advance_at-requires t c =
    let r = value_ready c.args.body.parameter.now (form_of c.args.body.expr.now) c.args.step.env.now c.args.common.now c.args.entries.now c.args.value.now c.requires.ready in
    let own = Each-member c.requires.each (Member-right (keys_of c.args.entries.now) c.requires.own) in
    let state = c.state_at-state.ensures ∙ ap (tree_at c.args.value.now c.args.common.now) (items_of-listed (map plain_entry c.args.entries.now)) in
    let may_come = ap (part_may OwnAlphabet (form_of c.args.body.expr.now) (bind c.args.body.parameter.now (Some c.args.value.now) c.args.step.env.now) c.args.step.action.now) state ∙ own in (
      omega arith,
      (
        c.requires.ready.fits,
        (
          subst (IsProper (form_of c.args.body.expr.now)) (sym c.state_at-state.ensures) r.proper,
          (omega (arith, ap size_of c.state_at-state.ensures, r.small), may_come),
        ),
      ),
    )

pub quantifiers::advance_own_at-returns : goal.quantifiers::advance_own_at-returns
quantifiers::advance_own_at-returns t c =
    let whole = entries_touched OwnAlphabet c.args.body.parameter.now (form_of c.args.body.expr.now) c.args.step.env.now c.args.step.action.now c.args.common.now c.args.entries.now c.requires.ready in
    let common = common_stays c.args.body.parameter.now (form_of c.args.body.expr.now) c.args.step.env.now c.args.step.action.now c.args.common.now c.args.entries.now c.requires.outside in
    let same = value_moves OwnAlphabet c.args.body.parameter.now (form_of c.args.body.expr.now) c.args.step.env.now c.args.step.action.now c.args.common.now c.args.entries.now c.args.value.now c.state_at-state.result.now c.state_at-state.ensures in
    let k = value_size (common_after OwnAlphabet c.args.body.parameter.now (form_of c.args.body.expr.now) c.args.step.env.now c.args.step.action.now c.args.common.now) (tree_after OwnAlphabet c.args.body.parameter.now (form_of c.args.body.expr.now) c.args.step.env.now c.args.step.action.now c.args.common.now (map plain_entry c.args.entries.now)) (touched c.args.entries.now c.args.step.action.now) c.args.value.now (Member-right (keys_of c.args.entries.now) c.requires.own) in
    made_as c.args.step.limit (moved_part OwnAlphabet (form_of c.args.body.expr.now) (bind c.args.body.parameter.now (Some c.args.value.now) c.args.step.env.now) c.args.step.action.now c.state_at-state.result.now)
    (tree_after OwnAlphabet c.args.body.parameter.now (form_of c.args.body.expr.now) c.args.step.env.now c.args.step.action.now c.args.common.now (map plain_entry c.args.entries.now) c.args.value.now)
    (more c.args.common.now (entries_after OwnAlphabet c.args.body.parameter.now (form_of c.args.body.expr.now) c.args.step.env.now c.args.step.action.now c.args.common.now (plain_entries c.args.entries.now)))
    c.advance_at.result same (λ over. omega (arith, ap size_of whole, ap size_of common, ap size_of same, k, over)) c.advance_at.ensures
