-- An action that isn't in the alphabet of an expression doesn't come first, and doesn't come next.
use Rattle.std.proofs.Common.{◌≡◌, ℕ, length, nat_lt, Bool, true, false, ◌&&◌, ◌||◌, List, map, Option, Some, None, refl, sym, ap, ◌∙◌, not, true≢false, if◌then◌else◌}
use Rattle.std.specs.List.{list_any, list_all}
use Rattle.ix_words.specs.Each.{here}
use Rattle.ix_values.specs.PlainAction.{PlainAction}
use Rattle.ix_expr.specs.Form.{Form, atom, opt, seq, star, par, par_star, or, and, couple, any, every, sync, all, times}
use Rattle.ix_expr.specs.Environment.{Environment, bind}
use Rattle.ix_expr.specs.Meaning.{InAlphabet}
use Rattle.ix_tree.specs.Plain.{Plain, dead, start, opt as opt_of, seq as seq_of, star as star_of, par as par_of, par_star as par_star_of, or as or_of, and as and_of, couple as couple_of, any as any_of, every as every_of, sync as sync_of, all as all_of, times as times_of}
use Rattle.ix_tree.specs.Order.{key, first_part, second_part}
use Rattle.ix_expr.specs.Tests.{in_alphabet, values_and_outside, accepts_empty}
use Rattle.ix_can.specs.Nodes.{is_dead, items_of}
use Rattle.ix_can.specs.May.{moves_within, tree_at, may_first, may}
use Rattle.ix_words.proofs.Deciding.{any_from}
use Rattle.ix_can.proofs.NamedOutside.{and_false, or_false, and_none, if_false, none_from}
use Rattle.ix_expr.proofs.Testing.{alphabet_says}

halves : (b c : Bool) → (b || c) ≡ false → (b ≡ false) × (c ≡ false)
halves false c h = (refl, h)
halves true c h = absurd (true≢false h)

module _ (a : PlainAction) where
  -- what isn't in a quantifier's alphabet isn't in that of its body, whatever the parameter stands for
  under : (p : List ℕ) (y : Form) (e : Environment) → list_any (λ v. in_alphabet y (bind p v e) a) (values_and_outside a) ≡ false → (v : Option (List ℕ)) → in_alphabet y (bind p v e) a ≡ false
  under p y e h v = one (in_alphabet y (bind p v e) a) refl
    where
      within : (v : Option (List ℕ)) → InAlphabet y (bind p v e) a → list_any (λ u. in_alphabet y (bind p u e) a) (values_and_outside a) ≡ true
      within None i = any_from (λ u. in_alphabet y (bind p u e) a) (values_and_outside a) here ((alphabet_says y (bind p None e) a).1 i)
      within (Some u) i = (alphabet_says (any p y) e a).1 (u, i)

      one : (b : Bool) → in_alphabet y (bind p v e) a ≡ b → in_alphabet y (bind p v e) a ≡ false
      one false k = k
      one true k = absurd (true≢false (sym (within v ((alphabet_says y (bind p v e) a).0 k)) ∙ h))

  -- it doesn't come first
  pub outside_first : (x : Form) (e : Environment) → in_alphabet x e a ≡ false → may_first x e a ≡ false
  outside_first (atom x) e h = h
  outside_first (opt y) e h = outside_first y e h
  outside_first (seq y z) e h =
      let k = halves (in_alphabet y e a) (in_alphabet z e a) h in
      or_false (outside_first y e k.0) (ap (λ b. accepts_empty y && b) (outside_first z e k.1) ∙ and_none (accepts_empty y))
  outside_first (star y) e h = outside_first y e h
  outside_first (par y z) e h = let k = halves (in_alphabet y e a) (in_alphabet z e a) h in or_false (outside_first y e k.0) (outside_first z e k.1)
  outside_first (par_star y) e h = outside_first y e h
  outside_first (or y z) e h = let k = halves (in_alphabet y e a) (in_alphabet z e a) h in or_false (outside_first y e k.0) (outside_first z e k.1)
  outside_first (and y z) e h = ap (λ b. b && may_first z e a) (outside_first y e (halves (in_alphabet y e a) (in_alphabet z e a) h).0)
  outside_first (couple y z) e h = ap (λ b. b && ((not (in_alphabet y e a) || may_first y e a) && (not (in_alphabet z e a) || may_first z e a))) h
  outside_first (any p y) e h = none_from (λ v. may_first y (bind p v e) a) (λ v. outside_first y (bind p v e) (under p y e h v)) (values_and_outside a)
  outside_first (every p y) e h = ap (λ b. b && list_all (λ v. may_first y (bind p v e) a) (map Some a.values)) (outside_first y (bind p None e) (under p y e h None))
  outside_first (sync p y) e h = ap (λ b. b && list_all (λ v. moves_within (in_alphabet y (bind p v e) a) (may_first y (bind p v e) a)) (values_and_outside a)) h
  outside_first (all p y) e h = none_from (λ v. may_first y (bind p (Some v) e) a) (λ v. outside_first y (bind p (Some v) e) (under p y e h (Some v))) a.values
  outside_first (times n y) e h = and_false (nat_lt 0 n) (outside_first y e h)

  -- and doesn't come next
  pub outside_next : (x : Form) (e : Environment) (t : Plain) → in_alphabet x e a ≡ false → may x e t a ≡ false
  outside_next (atom x) e start h = h
  outside_next (opt y) e (opt_of empty t) h = outside_next y e t h
  outside_next (seq y z) e (seq_of t ended rest) h =
      let k = halves (in_alphabet y e a) (in_alphabet z e a) h in
      or_false (outside_next y e t k.0) (none_from (λ s. may z e s a) (λ s. outside_next z e s k.1) (items_of rest))
  outside_next (star y) e (star_of again rest) h =
      or_false (ap (λ b. again && b) (outside_first y e h) ∙ and_none again) (none_from (λ s. may y e s a) (λ s. outside_next y e s h) (items_of rest))
  outside_next (par y z) e (par_of pairs) h =
      let k = halves (in_alphabet y e a) (in_alphabet z e a) h in
      none_from (λ s. may y e (first_part s) a || may z e (second_part s) a) (λ s. or_false (outside_next y e (first_part s) k.0) (outside_next z e (second_part s) k.1)) (items_of pairs)
  outside_next (par_star y) e (par_star_of bags) h =
      none_from (λ b. may_first y e a || list_any (λ s. may y e s a) (items_of (first_part b)))
      (λ b. or_false (outside_first y e h) (none_from (λ s. may y e s a) (λ s. outside_next y e s h) (items_of (first_part b)))) (items_of bags)
  outside_next (or y z) e (or_of t u) h = let k = halves (in_alphabet y e a) (in_alphabet z e a) h in or_false (outside_next y e t k.0) (outside_next z e u k.1)
  outside_next (and y z) e (and_of t u) h = ap (λ b. b && may z e u a) (outside_next y e t (halves (in_alphabet y e a) (in_alphabet z e a) h).0)
  outside_next (couple y z) e (couple_of t u) h = ap (λ b. b && ((not (in_alphabet y e a) || may y e t a) && (not (in_alphabet z e a) || may z e u a))) h
  outside_next (any p y) e (any_of common entries) h =
      or_false (outside_next y (bind p None e) common (under p y e h None))
      (or_false (none_from (λ x. may y (bind p (Some (key x)) e) (first_part x) a) (λ x. outside_next y (bind p (Some (key x)) e) (first_part x) (under p y e h (Some (key x)))) (items_of entries))
      (none_from (λ v. may y (bind p (Some v) e) (tree_at v common (items_of entries)) a) (λ v. outside_next y (bind p (Some v) e) (tree_at v common (items_of entries)) (under p y e h (Some v))) a.values))
  outside_next (every p y) e (every_of common entries) h =
      ap (λ b. b && (list_all (λ x. may y (bind p (Some (key x)) e) (first_part x) a) (items_of entries) && list_all (λ v. may y (bind p (Some v) e) (tree_at v common (items_of entries)) a) a.values))
      (outside_next y (bind p None e) common (under p y e h None))
  outside_next (sync p y) e (sync_of common entries) h =
      ap (λ b. b
      && (moves_within (in_alphabet y (bind p None e) a) (may y (bind p None e) common a)
      && (list_all (λ x. moves_within (in_alphabet y (bind p (Some (key x)) e) a) (may y (bind p (Some (key x)) e) (first_part x) a)) (items_of entries)
      && list_all (λ v. moves_within (in_alphabet y (bind p (Some v) e) a) (may y (bind p (Some v) e) (tree_at v common (items_of entries)) a)) a.values)))
      h
  outside_next (all p y) e (all_of maps) h =
      none_from (λ m. list_any (λ v. if is_dead (tree_at v dead (items_of (first_part m))) then may_first y (bind p (Some v) e) a else may y (bind p (Some v) e) (tree_at v dead (items_of (first_part m))) a) a.values)
      (λ m. none_from (λ v. if is_dead (tree_at v dead (items_of (first_part m))) then may_first y (bind p (Some v) e) a else may y (bind p (Some v) e) (tree_at v dead (items_of (first_part m))) a)
      (λ v. if_false (is_dead (tree_at v dead (items_of (first_part m)))) (outside_first y (bind p (Some v) e) (under p y e h (Some v))) (outside_next y (bind p (Some v) e) (tree_at v dead (items_of (first_part m))) (under p y e h (Some v))))
      a.values) (items_of maps)
  outside_next (times n y) e (times_of bags) h =
      none_from (λ b. (nat_lt (length (items_of (first_part b))) n && may_first y e a) || list_any (λ s. may y e s a) (items_of (first_part b)))
      (λ b. or_false (and_false (nat_lt (length (items_of (first_part b))) n) (outside_first y e h)) (none_from (λ s. may y e s a) (λ s. outside_next y e s h) (items_of (first_part b)))) (items_of bags)
  outside_next _ e _ h = refl

  -- so one that comes next is in the alphabet
  pub next_inside : (x : Form) (e : Environment) (t : Plain) → may x e t a ≡ true → in_alphabet x e a ≡ true
  next_inside x e t h = one (in_alphabet x e a) refl
    where
      one : (i : Bool) → in_alphabet x e a ≡ i → in_alphabet x e a ≡ true
      one true i = i
      one false i = absurd (true≢false (sym h ∙ outside_next x e t i))
