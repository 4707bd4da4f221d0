use Rattle.std.proofs.Common.{◌++◌, sym, ap, ◌∙◌, subst}
use Rattle.std.specs.List.{AllByRecursion}
use Rattle.std.specs.Ordering.{eq_by_cmp}
use Rattle.ix_values.specs.Order.{text_cmp}
use Rattle.ix_entries.specs.inside.Entries.{KeysAscend, with_entry}
use Rattle.ix_tree.specs.Order.{tree_cmp}
use Rattle.ix_tree.specs.inside.HeldEntries.{IsCutWell, entries_kept}
use Rattle.ix_tree.specs.inside.Pieces.{HasEntries, in_pieces}
use Rattle.ix_tree.proofs.Parted.{parted, parts_around, pieces_again, some_before, some_behind, some_both, with_parts}
use Rattle.ix_tree.proofs.entries.Entries.with.Goals as goal

pub around_piece-requires : goal.around_piece-requires
around_piece-requires c =
    let later = c.deref-in-Cut.ensures.value in
    let whole = ap in_pieces later ∙ sym (ap entries_kept c.in-Cut.is) ∙ c.self.view_is in
    parted c.args.value c.deref-in-Cut.result.now (subst (AllByRecursion HasEntries) (sym later) (subst IsCutWell c.in-Cut.is c.self.invariant)) (subst (KeysAscend text_cmp) (sym whole) c.requires)

pub entries_with-requires-in-Some : goal.entries_with-requires-in-Some
entries_with-requires-in-Some c =
    let later = c.deref-in-Cut.ensures.value in
    let whole = ap in_pieces later ∙ sym (ap entries_kept c.in-Cut.is) ∙ c.self.view_is in
    let parts = parts_around c.args.value c.deref-in-Cut.result.now c.in-Some.before.now c.in-Some.piece.now c.in-Some.behind.now
    (subst (KeysAscend text_cmp) (sym whole) c.requires) (subst (AllByRecursion HasEntries) (sym later) (subst IsCutWell c.in-Cut.is c.self.invariant)) c.in-Some.ensures in
    rw c.entries.ensures parts.ascending

pub push_entries-requires : goal.push_entries-requires
push_entries-requires c =
    let some = subst (AllByRecursion HasEntries) (sym c.deref-in-Cut.ensures.value ∙ c.in-Some.ensures.parts) (subst IsCutWell c.in-Cut.is c.self.invariant) in
    subst (AllByRecursion HasEntries) (sym (c.in_ok-push_shared_pieces-in-Some.ensures ∙ ap (λ l. l ++ c.in-Some.before.now) c.in_ok-all-in-Some.ensures.items)) (some_before c.in-Some.before.now c.in-Some.piece.now c.in-Some.behind.now some)

pub invariant_of-result : goal.invariant_of-result
invariant_of-result c =
    let some = subst (AllByRecursion HasEntries) (sym c.deref-in-Cut.ensures.value ∙ c.in-Some.ensures.parts) (subst IsCutWell c.in-Cut.is c.self.invariant) in
    subst (AllByRecursion HasEntries) (sym c.in_ok-push_shared_pieces-in-Some-2.ensures) (some_both _ c.in-Some.behind.now c.in_ok-push_entries-in-Some.ensures.some (some_behind c.in-Some.before.now c.in-Some.piece.now c.in-Some.behind.now some))

pub returns-in_ok-push_shared_pieces-in-Some-2 : goal.returns-in_ok-push_shared_pieces-in-Some-2
returns-in_ok-push_shared_pieces-in-Some-2 c =
    let later = c.deref-in-Cut.ensures.value in
    let whole = ap in_pieces later ∙ sym (ap entries_kept c.in-Cut.is) ∙ c.self.view_is in
    let parts = parts_around c.args.value c.deref-in-Cut.result.now c.in-Some.before.now c.in-Some.piece.now c.in-Some.behind.now
    (subst (KeysAscend text_cmp) (sym whole) c.requires) (subst (AllByRecursion HasEntries) (sym later) (subst IsCutWell c.in-Cut.is c.self.invariant)) c.in-Some.ensures in
    let pushed = c.in_ok-push_shared_pieces-in-Some.ensures ∙ ap (λ l. l ++ c.in-Some.before.now) c.in_ok-all-in-Some.ensures.items in
    let made = c.in_ok-made-in-Some.ensures ∙ ap (λ l. with_entry text_cmp (eq_by_cmp tree_cmp) c.args.common.now l c.args.value c.args.state) c.entries.ensures in
    pieces_again c.in_ok-made-in-Some.made.items c.in-Some.before.now c.in-Some.behind.now _ _
    (c.in_ok-push_entries-in-Some.ensures.items ∙ ap (λ l. in_pieces l ++ c.in_ok-made-in-Some.made.items) pushed) c.in_ok-push_shared_pieces-in-Some-2.ensures
    ∙ ap (λ l. in_pieces c.in-Some.before.now ++ (l ++ in_pieces c.in-Some.behind.now)) made
    ∙ sym (with_parts _ _ _ _ _ parts (eq_by_cmp tree_cmp) c.args.common.now c.args.state)
    ∙ ap (λ l. with_entry text_cmp (eq_by_cmp tree_cmp) c.args.common.now l c.args.value c.args.state) whole
