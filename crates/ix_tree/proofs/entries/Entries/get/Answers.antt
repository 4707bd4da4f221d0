use Rattle.std.proofs.Common.{◌≡◌, Some, None, sym, ap, ◌∙◌, subst}
use Rattle.std.specs.List.{AllByRecursion}
use Rattle.std.specs.BTreeMap.{is_at}
use Rattle.std.specs.Map.{lookup}
use Rattle.std.specs.Option.{MatchOption}
use Rattle.ix_values.specs.Order.{text_cmp}
use Rattle.ix_entries.specs.inside.Entries.{KeysAscend}
use Rattle.ix_tree.specs.inside.HeldEntries.{IsCutWell, entries_kept}
use Rattle.ix_tree.specs.inside.Pieces.{HasEntries, in_pieces}
use Rattle.ix_tree.proofs.Parted.{parted, parts_around, lookup_parts}
use Rattle.ix_tree.proofs.entries.Entries.get.Goals as goal

pub around_piece-requires : goal.around_piece-requires
around_piece-requires c =
    let later = c.deref-in-Cut.ensures.value in
    let whole = ap in_pieces later ∙ sym (ap entries_kept c.in-Cut.is) ∙ c.self.view_is in
    parted c.args.value.now c.deref-in-Cut.result.now (subst (AllByRecursion HasEntries) (sym later) (subst IsCutWell c.in-Cut.is c.self.invariant)) (subst (KeysAscend text_cmp) (sym whole) c.requires)

pub state_in-requires-in-Cut : goal.state_in-requires-in-Cut
state_in-requires-in-Cut c =
    let later = c.deref-in-Cut.ensures.value in
    let whole = ap in_pieces later ∙ sym (ap entries_kept c.in-Cut.is) ∙ c.self.view_is in
    let parts = parts_around c.args.value.now c.deref-in-Cut.result.now c.in_ok-_before-in-Cut._before.now c.in_ok-_before-in-Cut.piece.now c.in_ok-_before-in-Cut._behind.now
    (subst (KeysAscend text_cmp) (sym whole) c.requires) (subst (AllByRecursion HasEntries) (sym later) (subst IsCutWell c.in-Cut.is c.self.invariant)) c.in_ok-_before-in-Cut.ensures in
    rw c.entries.ensures parts.ascending

pub returns-in_ok-_before-in-Cut : goal.returns-in_ok-_before-in-Cut
returns-in_ok-_before-in-Cut c =
    let later = c.deref-in-Cut.ensures.value in
    let whole = ap in_pieces later ∙ sym (ap entries_kept c.in-Cut.is) ∙ c.self.view_is in
    let parts = parts_around c.args.value.now c.deref-in-Cut.result.now c.in_ok-_before-in-Cut._before.now c.in_ok-_before-in-Cut.piece.now c.in_ok-_before-in-Cut._behind.now
    (subst (KeysAscend text_cmp) (sym whole) c.requires) (subst (AllByRecursion HasEntries) (sym later) (subst IsCutWell c.in-Cut.is c.self.invariant)) c.in_ok-_before-in-Cut.ensures in
    subst (λ o. MatchOption c.state_in-in-Cut.result (o ≡ None) (λ state. o ≡ Some state.now))
    (ap (lookup (is_at (text_cmp c.args.value.now))) c.entries.ensures ∙ sym (lookup_parts _ _ _ _ _ parts) ∙ ap (lookup (is_at (text_cmp c.args.value.now))) whole) c.state_in-in-Cut.ensures
