-- The bags of `times`: where the trees of the operand tell what may come next, so do the bags of the parts.
use Rattle.std.proofs.Common.{refl, ◌≡◌, ◌↔◌, ℕ, ◌<◌, Bool, true, ◌&&◌, ◌||◌, List, [], ◌∷◌, ◌++◌, map, flat_map, length, nat_lt, sym, subst, ltb-true, lt-ltb}
use Rattle.std.specs.List.{list_any, list_all}
use Rattle.ix_words.specs.Words.{Shared}
use Rattle.ix_values.specs.PlainAction.{PlainAction, Word}
use Rattle.ix_expr.specs.Form.{Form, times}
use Rattle.ix_expr.specs.Environment.{Environment}
use Rattle.ix_expr.specs.Meaning.{IsPartial}
use Rattle.ix_expr.proofs.LawsOfMeaning.{empty-partial, prefix-partial}
use Rattle.ix_tree.specs.Plain.{Plain, bag as bag_of, times as times_tree}
use Rattle.ix_tree.specs.Order.{first_part}
use Rattle.ix_can.specs.Ways.{is_empty, sharings, parts_below}
use Rattle.ix_can.specs.Nodes.{is_live, listed, items_of, set_of, sorted, only_bag_done}
use Rattle.ix_can.specs.TreeOf.{tree_of}
use Rattle.ix_can.specs.May.{may_first, may}
use Rattle.ix_words.proofs.Deciding.{iff_trans, when_either, when_both}
use Rattle.ix_can.proofs.Lists.{both_iff, same_test, when_passes, one_passes, made_says, all_map, any_map}
use Rattle.ix_can.proofs.Spent.{full_may}
use Rattle.ix_can.proofs.Nodes.{tree_live, any_set, any_sorted}
use Rattle.ix_can.proofs.OperatorsTell.{Tells}
use Rattle.ix_can.proofs.MayTell.{Begins, MayTells, either_may}
use Rattle.ix_can.proofs.Sharings.{shared_one_says, SharedGoes, shared_more_says}
use Rattle.ix_can.proofs.TimesTell.{parts_bag_count, times_bag, times_told}

module _ (a : PlainAction) (y : Form) (e : Environment) (n : ℕ) where
  -- the bag has room for one more tree which the action may begin, or the action moves one of its trees
  abbrev pub bag_goes : Plain → Bool
  bag_goes b = (nat_lt (length (items_of (first_part b))) n && may_first y e a) || list_any (λ s. may y e s a) (items_of (first_part b))

  -- the first action
  pub bags_begin : Begins a y e → (nat_lt 0 n && may_first y e a ≡ true) ↔ Shared n (IsPartial y e) (a ∷ [])
  bags_begin f = iff_trans
      (when_both (nat_lt 0 n) (may_first y e a) (ltb-true 0 n, lt-ltb 0 n) f)
      (shared_one_says n a (empty-partial y e))

  has_room : (w : Word) (owners : List ℕ) → (nat_lt (length (items_of (listed (sorted (map (tree_of y e) (parts_below n owners w)))))) n ≡ true) ↔ (length (parts_below n owners w) < n)
  has_room w owners =
      let count = parts_bag_count y e n w owners in (
        λ t. subst (λ k. k < n) count (ltb-true _ n t),
        λ h. lt-ltb _ n (subst (λ k. k < n) (sym count) h),
      )

  times_goes : Tells y e → Begins a y e → MayTells a y e → (w : Word) (owners : List ℕ) → (list_any bag_goes (times_bag y e n w owners) ≡ true) ↔ SharedGoes (IsPartial y e) n w a owners
  times_goes k f m w owners =
      let parts : List Word = parts_below n owners w in
      let trees : List Plain = map (tree_of y e) parts in
      let items : List Plain = items_of (listed (sorted trees)) in
      iff_trans (when_passes bag_goes (list_all is_live trees) (bag_of (listed (sorted trees)) ∷ []))
      (both_iff
      (all_map is_live (tree_of y e) parts (λ u i. tree_live (tree_of y e u) (k u)))
      (iff_trans (one_passes bag_goes (bag_of (listed (sorted trees))))
      (when_either (nat_lt (length items) n && may_first y e a) (list_any (λ s. may y e s a) items)
      (when_both (nat_lt (length items) n) (may_first y e a) (has_room w owners) f)
      (same_test (any_sorted (λ s. may y e s a) trees) (any_map (λ s. may y e s a) (tree_of y e) parts (λ u i. m u))))))

  -- one more action
  pub bags_go : Tells y e → Begins a y e → MayTells a y e → (w : Word) → (list_any bag_goes (flat_map (times_bag y e n w) (sharings n w)) ≡ true) ↔ Shared n (IsPartial y e) (w ++ a ∷ [])
  bags_go k f m w = iff_trans
      (made_says bag_goes (times_bag y e n w) (sharings n w) (λ owners i. times_goes k f m w owners))
      (shared_more_says (prefix-partial y e) (empty-partial y e) n w a)

-- the first action of `times`
pub first_times : (a : PlainAction) (n : ℕ) (y : Form) (e : Environment) → Begins a y e → Begins a (times n y) e
first_times a n y e f = bags_begin a y e n f

-- and one more
pub times_may : (a : PlainAction) (y : Form) (e : Environment) (n : ℕ) → Tells y e → Begins a y e → MayTells a y e → MayTells a (times n y) e
times_may a y e n k f m w =
    let bags : List Plain = flat_map (times_bag y e n w) (sharings n w) in
    either_may a (times n y) e (is_empty bags) (only_bag_done n (items_of (set_of bags))) (times_tree (set_of bags))
    (full_may n y e a (items_of (set_of bags))) refl (times_told y e n k w).partial (prefix-partial (times n y) e w (a ∷ []))
    (λ p. same_test (any_set (bag_goes a y e n) bags) (bags_go a y e n k f m w))
