-- The bags of `times`: where the trees of the operand tell what is partial and complete, so do the bags of the parts.
use Rattle.std.proofs.Common.{◌≡◌, ◌↔◌, ◌⊎◌, inl, inr, ℕ, ◌≤◌, Bool, true, ◌&&◌, ◌||◌, ◌==◌, List, [], ◌∷◌, map, flat_map, length, refl, sym, ap, ◌∙◌, arith, eqb-true, eq-eqb}
use Rattle.std.specs.List.{list_any, list_all}
use Rattle.std.proofs.lemmas.List.{length-map}
use Rattle.ix_words.specs.Each.{Each, Member}
use Rattle.ix_words.specs.Words.{Shared}
use Rattle.ix_words.proofs.Each.{Each-weaker}
use Rattle.ix_words.proofs.Canon.{Member-cases, Member-when, Member-flat_map}
use Rattle.ix_values.specs.PlainAction.{Word}
use Rattle.ix_expr.specs.Form.{Form, times}
use Rattle.ix_expr.specs.Environment.{Environment}
use Rattle.ix_expr.specs.Meaning.{IsComplete, IsPartial}
use Rattle.ix_expr.proofs.LawsOfMeaning.{empty-partial, complete-partial}
use Rattle.ix_tree.specs.Plain.{Plain, bag as bag_of, times as times_tree}
use Rattle.ix_tree.specs.Order.{first_part}
use Rattle.ix_expr.specs.Tests.{accepts_empty}
use Rattle.ix_can.specs.Ways.{is_empty, sharings, parts_below}
use Rattle.ix_can.specs.Nodes.{is_live, listed, items_of, set_of, sorted, only_bag_done}
use Rattle.ix_can.specs.TreeOf.{is_final, tree_of, whole_bag}
use Rattle.ix_words.proofs.Deciding.{iff_trans, when_either, when_both}
use Rattle.ix_can.proofs.Lists.{both_iff, same_test, when_passes, one_passes, made_says, all_map, passes_all, filled}
use Rattle.ix_expr.proofs.Testing.{empty_complete}
use Rattle.ix_can.proofs.Bags.{sorted_reordered}
use Rattle.ix_can.proofs.Spent.{full_final}
use Rattle.ix_can.proofs.Nodes.{either_tells, tree_live, items_listed, any_set, all_sorted}
use Rattle.ix_can.proofs.OperatorsTell.{Tells}
use Rattle.ix_can.proofs.Sharings.{parts_count, same_length, shared_says, shared_filled_says}

-- a bag has as many trees as it is made of
pub bag_count : (xs : List Plain) → length (items_of (listed (sorted xs))) ≡ length xs
bag_count xs = ap length (items_listed (sorted xs)) ∙ same_length (sorted_reordered xs)

module _ (y : Form) (e : Environment) (n : ℕ) where
  -- the bag of the trees of the parts
  abbrev pub times_bag : Word → List ℕ → List Plain
  times_bag w owners = whole_bag (map (tree_of y e) (parts_below n owners w))

  -- all trees of the bag are final, and so is that of the empty word where fewer than n have begun
  abbrev pub whole_final : Plain → Bool
  whole_final b = list_all (is_final y) (items_of (first_part b)) && (length (items_of (first_part b)) == n || accepts_empty y)

  -- the bag of the parts has as many trees as there are parts with an item
  pub parts_bag_count : (w : Word) (owners : List ℕ) → length (items_of (listed (sorted (map (tree_of y e) (parts_below n owners w))))) ≡ length (parts_below n owners w)
  parts_bag_count w owners = bag_count (map (tree_of y e) (parts_below n owners w)) ∙ length-map (parts_below n owners w) (tree_of y e)

  times_bag_count : (w : Word) (owners : List ℕ) {b : Plain} → Member b (times_bag w owners) → length (items_of (first_part b)) ≡ length (parts_below n owners w)
  times_bag_count w owners m =
      let trees : List Plain = map (tree_of y e) (parts_below n owners w) in
      let k = Member-when (list_all is_live trees) (bag_of (listed (sorted trees)) ∷ []) m in
      elim (Member-cases k.1) [
        | inl same ↦ ap (λ c. length (items_of (first_part c))) same ∙ parts_bag_count w owners
        | inr none ↦ elim none [ ]
      ]

  -- so no bag has more than n
  pub bags_count : (w : Word) {b : Plain} → Member b (flat_map (times_bag w) (sharings n w)) → length (items_of (first_part b)) ≤ n
  bags_count w m =
      let k = Member-flat_map (times_bag w) (sharings n w) m in
      let same = times_bag_count w k.0 k.2 in
      let few = parts_count n k.0 w in
      omega (arith, same, few)

  times_bag_says : Tells y e → (w : Word) (owners : List ℕ) → (list_any passes_all (times_bag w owners) ≡ true) ↔ Each (IsPartial y e) (parts_below n owners w)
  times_bag_says k w owners =
      let trees : List Plain = map (tree_of y e) (parts_below n owners w) in
      iff_trans (when_passes passes_all (list_all is_live trees) (bag_of (listed (sorted trees)) ∷ []))
      (iff_trans (λ h. h.0, λ h. (h, refl)) (all_map is_live (tree_of y e) (parts_below n owners w) (λ u m. tree_live (tree_of y e u) (k u))))

  all_begun_says : (w : Word) (owners : List ℕ) → (length (items_of (listed (sorted (map (tree_of y e) (parts_below n owners w))))) == n ≡ true) ↔ (length (parts_below n owners w) ≡ n)
  all_begun_says w owners = (
    λ t. sym (parts_bag_count w owners) ∙ eqb-true _ n t,
    λ l. eq-eqb _ n (parts_bag_count w owners ∙ l),
  )

  times_final_says : Tells y e → (w : Word) (owners : List ℕ) → (list_any whole_final (times_bag w owners) ≡ true) ↔ (Each (IsComplete y e) (parts_below n owners w) × ((length (parts_below n owners w) ≡ n) ⊎ IsComplete y e []))
  times_final_says k w owners =
      let parts : List Word = parts_below n owners w in
      let trees : List Plain = map (tree_of y e) parts in
      let items : List Plain = items_of (listed (sorted trees)) in
      iff_trans (when_passes whole_final (list_all is_live trees) (bag_of (listed (sorted trees)) ∷ []))
      (iff_trans
      (both_iff
      (all_map is_live (tree_of y e) parts (λ u m. tree_live (tree_of y e u) (k u)))
      (iff_trans (one_passes whole_final (bag_of (listed (sorted trees))))
      (when_both (list_all (is_final y) items) (length items == n || accepts_empty y)
      (same_test (all_sorted (is_final y) trees) (all_map (is_final y) (tree_of y e) parts (λ u m. (k u).complete)))
      (when_either (length items == n) (accepts_empty y) (all_begun_says w owners) (empty_complete y e)))))
      (λ h. h.1, λ h. (Each-weaker (λ u c. complete-partial y e u c) h.0, h)))

  -- some bag stands for each partial word
  pub bags_partial : Tells y e → (w : Word) → (list_any passes_all (flat_map (times_bag w) (sharings n w)) ≡ true) ↔ Shared n (IsPartial y e) w
  bags_partial k w = iff_trans
      (made_says passes_all (times_bag w) (sharings n w) (λ owners m. times_bag_says k w owners))
      (shared_filled_says n w (empty-partial y e))

  -- and some final one for each complete word
  pub bags_complete : Tells y e → (w : Word) → (list_any whole_final (flat_map (times_bag w) (sharings n w)) ≡ true) ↔ Shared n (IsComplete y e) w
  bags_complete k w = iff_trans
      (made_says whole_final (times_bag w) (sharings n w) (λ owners m. times_final_says k w owners))
      (shared_says n w)

-- so the trees of `times` tell
pub times_told : (y : Form) (e : Environment) (n : ℕ) → Tells y e → Tells (times n y) e
times_told y e n k w =
    let bags : List Plain = flat_map (times_bag y e n w) (sharings n w) in
    either_tells (times n y) (is_empty bags) (only_bag_done n (items_of (set_of bags))) (times_tree (set_of bags)) refl
    (iff_trans (filled bags) (bags_partial y e n k w))
    (λ p. same_test (any_set (whole_final y e n) bags) (bags_complete y e n k w))
    (complete-partial (times n y) e w)
    (λ p s. full_final n y (items_of (set_of bags)) s)
