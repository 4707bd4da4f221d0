-- Environments under which the atoms of an expression match an action alike let it come next alike, and move each tree
-- alike.
use Rattle.std.proofs.Common.{◌≡◌, length, false, not, ◌&&◌, ◌||◌, [], ◌∷◌, ◌++◌, Some, None, flat_map, filter, refl, ap, if◌then◌else◌}
use Rattle.std.specs.Prelude.{nat_lt}
use Rattle.std.specs.List.{list_any, list_all}
use Rattle.ix_words.specs.Canon.{when}
use Rattle.ix_values.specs.PlainAction.{PlainAction}
use Rattle.ix_expr.specs.Form.{Form, atom, opt, seq, star, par, par_star, or, and, couple, any, every, sync, all, times}
use Rattle.ix_expr.specs.Environment.{Environment, bind}
use Rattle.ix_expr.specs.Laws.{AtomsAgreeAt}
use Rattle.ix_expr.proofs.AgreeingAtoms.{atoms-back, alphabet-same}
use Rattle.ix_tree.specs.Plain.{Plain, dead, start, done, opt as opt_of, seq as seq_of, star as star_of, par as par_of, par_star as par_star_of, or as or_of, and as and_of, couple as couple_of, any as any_of, every as every_of, sync as sync_of, all as all_of, times as times_of, pair as pair_of}
use Rattle.ix_tree.specs.Order.{key, first_part, second_part}
use Rattle.ix_expr.specs.Tests.{in_alphabet, values_and_outside, accepts_empty}
use Rattle.ix_can.specs.Nodes.{is_dead, is_live, is_open, items_of, set_of, live, dead_if, settled, settled_times, seq_parts}
use Rattle.ix_can.specs.TreeOf.{is_final, tree_of}
use Rattle.ix_can.specs.May.{both_move, moves_within, tree_at, may_first, may}
use Rattle.ix_can.specs.inside.Moved.{picks, bag_with, keep_with, entry_with, map_with, or_initial, moved_inside, moved}
use Rattle.ix_words.proofs.Deciding.{one_test}
use Rattle.ix_expr.proofs.Testing.{alphabet_says}

module _ (a : PlainAction) where
  -- the action is in the alphabet alike
  pub atoms_alphabet : (x : Form) (e f : Environment) → AtomsAgreeAt x e f a → in_alphabet x e a ≡ in_alphabet x f a
  atoms_alphabet x e f k = one_test (in_alphabet x e a) (in_alphabet x f a) (
    λ h. (alphabet_says x f a).1 (alphabet-same x e f a k ((alphabet_says x e a).0 h)),
    λ h. (alphabet_says x e a).1 (alphabet-same x f e a (atoms-back x e f a k) ((alphabet_says x f a).0 h)),
  )

  -- the action may come first alike
  pub first_alike : (x : Form) (e f : Environment) → AtomsAgreeAt x e f a → may_first x e a ≡ may_first x f a
  first_alike (atom x) e f k = atoms_alphabet (atom x) e f k
  first_alike (opt y) e f k = first_alike y e f k
  first_alike (seq y z) e f k = (λ i. first_alike y e f k.0 i || (accepts_empty y && first_alike z e f k.1 i))
  first_alike (star y) e f k = first_alike y e f k
  first_alike (par y z) e f k = (λ i. first_alike y e f k.0 i || first_alike z e f k.1 i)
  first_alike (par_star y) e f k = first_alike y e f k
  first_alike (or y z) e f k = (λ i. first_alike y e f k.0 i || first_alike z e f k.1 i)
  first_alike (and y z) e f k = (λ i. first_alike y e f k.0 i && first_alike z e f k.1 i)
  first_alike (couple y z) e f k = (λ i. both_move (atoms_alphabet y e f k.0 i) (atoms_alphabet z e f k.1 i) (first_alike y e f k.0 i) (first_alike z e f k.1 i))
  first_alike (any p y) e f k = (λ i. list_any (λ v. first_alike y (bind p v e) (bind p v f) (k v) i) (values_and_outside a))
  first_alike (every p y) e f k = (λ i. list_all (λ v. first_alike y (bind p v e) (bind p v f) (k v) i) (values_and_outside a))
  first_alike (sync p y) e f k =
      (λ i. list_any (λ v. atoms_alphabet y (bind p v e) (bind p v f) (k v) i) (values_and_outside a)
      && list_all (λ v. moves_within (atoms_alphabet y (bind p v e) (bind p v f) (k v) i) (first_alike y (bind p v e) (bind p v f) (k v) i)) (values_and_outside a))
  first_alike (all p y) e f k = (λ i. list_any (λ v. first_alike y (bind p (Some v) e) (bind p (Some v) f) (k (Some v)) i) a.values)
  first_alike (times n y) e f k = (λ i. nat_lt 0 n && first_alike y e f k i)

  -- the action may come next alike
  pub may_alike : (x : Form) (t : Plain) (e f : Environment) → AtomsAgreeAt x e f a → may x e t a ≡ may x f t a
  may_alike (atom x) start e f k = atoms_alphabet (atom x) e f k
  may_alike (opt y) (opt_of empty t) e f k = may_alike y t e f k
  may_alike (seq y z) (seq_of t ended rest) e f k = (λ i. may_alike y t e f k.0 i || list_any (λ s. may_alike z s e f k.1 i) (items_of rest))
  may_alike (star y) (star_of again rest) e f k = (λ i. (again && first_alike y e f k i) || list_any (λ s. may_alike y s e f k i) (items_of rest))
  may_alike (par y z) (par_of pairs) e f k = (λ i. list_any (λ p. may_alike y (first_part p) e f k.0 i || may_alike z (second_part p) e f k.1 i) (items_of pairs))
  may_alike (par_star y) (par_star_of bags) e f k = (λ i. list_any (λ b. first_alike y e f k i || list_any (λ s. may_alike y s e f k i) (items_of (first_part b))) (items_of bags))
  may_alike (or y z) (or_of t u) e f k = (λ i. may_alike y t e f k.0 i || may_alike z u e f k.1 i)
  may_alike (and y z) (and_of t u) e f k = (λ i. may_alike y t e f k.0 i && may_alike z u e f k.1 i)
  may_alike (couple y z) (couple_of t u) e f k = (λ i. both_move (atoms_alphabet y e f k.0 i) (atoms_alphabet z e f k.1 i) (may_alike y t e f k.0 i) (may_alike z u e f k.1 i))
  may_alike (any p y) (any_of common entries) e f k =
      (λ i. may_alike y common (bind p None e) (bind p None f) (k None) i
      || (list_any (λ x. may_alike y (first_part x) (bind p (Some (key x)) e) (bind p (Some (key x)) f) (k (Some (key x))) i) (items_of entries)
      || list_any (λ v. may_alike y (tree_at v common (items_of entries)) (bind p (Some v) e) (bind p (Some v) f) (k (Some v)) i) a.values))
  may_alike (every p y) (every_of common entries) e f k =
      (λ i. may_alike y common (bind p None e) (bind p None f) (k None) i
      && (list_all (λ x. may_alike y (first_part x) (bind p (Some (key x)) e) (bind p (Some (key x)) f) (k (Some (key x))) i) (items_of entries)
      && list_all (λ v. may_alike y (tree_at v common (items_of entries)) (bind p (Some v) e) (bind p (Some v) f) (k (Some v)) i) a.values))
  may_alike (sync p y) (sync_of common entries) e f k =
      (λ i. list_any (λ v. atoms_alphabet y (bind p v e) (bind p v f) (k v) i) (values_and_outside a)
      && (moves_within (atoms_alphabet y (bind p None e) (bind p None f) (k None) i) (may_alike y common (bind p None e) (bind p None f) (k None) i)
      && (list_all (λ x. moves_within (atoms_alphabet y (bind p (Some (key x)) e) (bind p (Some (key x)) f) (k (Some (key x))) i) (may_alike y (first_part x) (bind p (Some (key x)) e) (bind p (Some (key x)) f) (k (Some (key x))) i)) (items_of entries)
      && list_all (λ v. moves_within (atoms_alphabet y (bind p (Some v) e) (bind p (Some v) f) (k (Some v)) i) (may_alike y (tree_at v common (items_of entries)) (bind p (Some v) e) (bind p (Some v) f) (k (Some v)) i)) a.values)))
  may_alike (all p y) (all_of maps) e f k =
      (λ i. list_any (λ m. list_any (λ v. if is_dead (tree_at v dead (items_of (first_part m))) then first_alike y (bind p (Some v) e) (bind p (Some v) f) (k (Some v)) i else may_alike y (tree_at v dead (items_of (first_part m))) (bind p (Some v) e) (bind p (Some v) f) (k (Some v)) i) a.values) (items_of maps))
  may_alike (times n y) (times_of bags) e f k = (λ i. list_any (λ b. (nat_lt (length (items_of (first_part b))) n && first_alike y e f k i) || list_any (λ s. may_alike y s e f k i) (items_of (first_part b))) (items_of bags))
  may_alike _ _ e f k = refl

  -- the action moves each tree alike
  pub moved_alike : (x : Form) (t : Plain) (e f : Environment) → AtomsAgreeAt x e f a → moved x e t a ≡ moved x f t a
  moved_alike (atom x) start e f k = ap (λ b. if b then done else dead) (atoms_alphabet (atom x) e f k)
  moved_alike (opt y) (opt_of empty t) e f k = (λ i. dead_if (not (may_alike (opt y) (opt_of empty t) e f k i)) (settled (opt_of false (moved_alike y t e f k i))))
  moved_alike (seq y z) (seq_of t ended rest) e f k =
      (λ i. dead_if (not (may_alike (seq y z) (seq_of t ended rest) e f k i)) (settled (seq_parts (moved_alike y t e f k.0 i)
      (flat_map (λ s. live (moved_alike z s e f k.1 i)) (items_of rest) ++ when (is_final y (moved_alike y t e f k.0 i)) (tree_of z [] [] ∷ [])))))
  moved_alike (star y) (star_of again rest) e f k =
      (λ i. dead_if (not (may_alike (star y) (star_of again rest) e f k i)) (star_of
      (list_any (is_final y) (flat_map (λ s. live (moved_alike y s e f k i)) (items_of rest) ++ when again (live (moved_alike y (tree_of y [] []) e f k i))))
      (set_of (filter is_open (flat_map (λ s. live (moved_alike y s e f k i)) (items_of rest) ++ when again (live (moved_alike y (tree_of y [] []) e f k i)))))))
  moved_alike (par y z) (par_of pairs) e f k =
      (λ i. dead_if (not (may_alike (par y z) (par_of pairs) e f k i)) (settled (par_of (set_of (flat_map (λ p.
      when (is_live (moved_alike y (first_part p) e f k.0 i)) (pair_of (moved_alike y (first_part p) e f k.0 i) (second_part p) ∷ [])
      ++ when (is_live (moved_alike z (second_part p) e f k.1 i)) (pair_of (first_part p) (moved_alike z (second_part p) e f k.1 i) ∷ [])) (items_of pairs))))))
  moved_alike (par_star y) (par_star_of bags) e f k =
      (λ i. dead_if (not (may_alike (par_star y) (par_star_of bags) e f k i)) (par_star_of (set_of (flat_map (λ b.
      flat_map (λ p. bag_with (moved_alike y p.0 e f k i) p.1) (picks (items_of (first_part b)))
      ++ bag_with (moved_alike y (tree_of y [] []) e f k i) (items_of (first_part b))) (items_of bags)))))
  moved_alike (or y z) (or_of t u) e f k = (λ i. dead_if (not (may_alike (or y z) (or_of t u) e f k i)) (settled (or_of (moved_alike y t e f k.0 i) (moved_alike z u e f k.1 i))))
  moved_alike (and y z) (and_of t u) e f k = (λ i. dead_if (not (may_alike (and y z) (and_of t u) e f k i)) (settled (and_of (moved_alike y t e f k.0 i) (moved_alike z u e f k.1 i))))
  moved_alike (couple y z) (couple_of t u) e f k =
      (λ i. dead_if (not (may_alike (couple y z) (couple_of t u) e f k i)) (settled (couple_of
      (moved_inside (atoms_alphabet y e f k.0 i) (moved_alike y t e f k.0 i) t)
      (moved_inside (atoms_alphabet z e f k.1 i) (moved_alike z u e f k.1 i) u))))
  moved_alike (any p y) (any_of common entries) e f k =
      (λ i. dead_if (not (may_alike (any p y) (any_of common entries) e f k i)) (settled (any_of (moved_alike y common (bind p None e) (bind p None f) (k None) i)
      (set_of (flat_map (λ x. entry_with (moved_alike y common (bind p None e) (bind p None f) (k None) i) (key x) (moved_alike y (first_part x) (bind p (Some (key x)) e) (bind p (Some (key x)) f) (k (Some (key x))) i)) (items_of entries)
      ++ flat_map (λ v. entry_with (moved_alike y common (bind p None e) (bind p None f) (k None) i) v (moved_alike y (tree_at v common (items_of entries)) (bind p (Some v) e) (bind p (Some v) f) (k (Some v)) i)) a.values)))))
  moved_alike (every p y) (every_of common entries) e f k =
      (λ i. dead_if (not (may_alike (every p y) (every_of common entries) e f k i)) (settled (every_of (moved_alike y common (bind p None e) (bind p None f) (k None) i)
      (set_of (flat_map (λ x. entry_with (moved_alike y common (bind p None e) (bind p None f) (k None) i) (key x) (moved_alike y (first_part x) (bind p (Some (key x)) e) (bind p (Some (key x)) f) (k (Some (key x))) i)) (items_of entries)
      ++ flat_map (λ v. entry_with (moved_alike y common (bind p None e) (bind p None f) (k None) i) v (moved_alike y (tree_at v common (items_of entries)) (bind p (Some v) e) (bind p (Some v) f) (k (Some v)) i)) a.values)))))
  moved_alike (sync p y) (sync_of common entries) e f k =
      (λ i. dead_if (not (may_alike (sync p y) (sync_of common entries) e f k i)) (settled (sync_of
      (moved_inside (atoms_alphabet y (bind p None e) (bind p None f) (k None) i) (moved_alike y common (bind p None e) (bind p None f) (k None) i) common)
      (set_of (flat_map (λ x. entry_with (moved_inside (atoms_alphabet y (bind p None e) (bind p None f) (k None) i) (moved_alike y common (bind p None e) (bind p None f) (k None) i) common) (key x)
      (moved_inside (atoms_alphabet y (bind p (Some (key x)) e) (bind p (Some (key x)) f) (k (Some (key x))) i) (moved_alike y (first_part x) (bind p (Some (key x)) e) (bind p (Some (key x)) f) (k (Some (key x))) i) (first_part x))) (items_of entries)
      ++ flat_map (λ v. entry_with (moved_inside (atoms_alphabet y (bind p None e) (bind p None f) (k None) i) (moved_alike y common (bind p None e) (bind p None f) (k None) i) common) v
      (moved_inside (atoms_alphabet y (bind p (Some v) e) (bind p (Some v) f) (k (Some v)) i) (moved_alike y (tree_at v common (items_of entries)) (bind p (Some v) e) (bind p (Some v) f) (k (Some v)) i) (tree_at v common (items_of entries)))) a.values)))))
  moved_alike (all p y) (all_of maps) e f k =
      (λ i. dead_if (not (may_alike (all p y) (all_of maps) e f k i)) (all_of (set_of (flat_map (λ m. flat_map (λ v.
      map_with (tree_of y [] []) v (moved_alike y (or_initial (tree_of y [] []) (tree_at v dead (items_of (first_part m)))) (bind p (Some v) e) (bind p (Some v) f) (k (Some v)) i) (items_of (first_part m))) a.values) (items_of maps)))))
  moved_alike (times n y) (times_of bags) e f k =
      (λ i. dead_if (not (may_alike (times n y) (times_of bags) e f k i)) (settled_times n (set_of (flat_map (λ b.
      flat_map (λ p. keep_with (moved_alike y p.0 e f k i) p.1) (picks (items_of (first_part b)))
      ++ when (nat_lt (length (items_of (first_part b))) n) (keep_with (moved_alike y (tree_of y [] []) e f k i) (items_of (first_part b)))) (items_of bags)))))
  moved_alike _ _ e f k = refl
