-- What becomes of values that the body of a quantifier doesn't see: each does as its entry does, or as outside does.
use Rattle.std.proofs.Common.{◌≡◌, ◌⊎◌, inl, inr, ℕ, Bool, true, false, not, ◌&&◌, ◌||◌, List, [], ◌∷◌, Some, None, refl, sym, ap, ◌∙◌, subst, true≢false, if◌then◌else◌}
use Rattle.std.specs.List.{list_any, list_all}
use Rattle.ix_words.specs.Each.{Each, no_item, item, Member}
use Rattle.ix_words.specs.Canon.{Ascending}
use Rattle.ix_words.proofs.Each.{Each-head, Each-tail, Each-weaker, Each-member}
use Rattle.ix_values.specs.Order.{text_eq, text_cmp}
use Rattle.ix_values.specs.lemmas.Order.{text_eq-decides}
use Rattle.ix_values.specs.PlainAction.{PlainAction}
use Rattle.ix_expr.specs.Form.{Form}
use Rattle.ix_expr.specs.Environment.{Environment, bind}
use Rattle.ix_expr.specs.Laws.{AtomsAgreeAt, EachAtomNames}
use Rattle.ix_expr.specs.Sees.{Sees}
use Rattle.ix_expr.proofs.Agreement.{alphabet-leads, unused-leads, member-or-not}
use Rattle.ix_expr.proofs.Unseen.{unseen-outside}
use Rattle.ix_tree.specs.Plain.{Plain, dead}
use Rattle.ix_tree.specs.Order.{key, first_part}
use Rattle.ix_can.specs.Nodes.{is_dead}
use Rattle.ix_expr.specs.Tests.{in_alphabet}
use Rattle.ix_can.specs.inside.CanAsk.{first_or_stays, may_or_stays, each_may_or_stays, may_own, UnseenFirst, UnseenAnswer}
use Rattle.ix_can.specs.May.{moves_within, may, tree_at}
use Rattle.ix_can.proofs.Keys.{tree_at_own}
use Rattle.ix_words.proofs.Deciding.{itself}
use Rattle.ix_can.proofs.Lists.{unless_either, all_to, all_from}
use Rattle.ix_can.proofs.MovesAlike.{atoms_alphabet, first_alike, may_alike}
use Rattle.ix_can.proofs.NamedOutside.{given_outside, if_false, none_first, none_next}
use Rattle.ix_expr.proofs.Testing.{alphabet_says}

-- a test that no item passes
none_to : {A : Type 0} (test : A → Bool) (w : List A) → list_any test w ≡ false → Each (λ a. test a ≡ false) w
none_to test [] h = no_item
none_to test (a ∷ w) h =
    let k = (unless_either (test a) (list_any test w) itself itself).0 h in
    item k.0 (none_to test w k.1)

-- what each entry has of its value, the tree of a value has, unless it is the common one
entry_or_common : (G : List ℕ → Plain → Type 0) (common : Plain) (v : List ℕ) (xs : List Plain) → Each (λ x. G (key x) (first_part x)) xs → G v (tree_at v common xs) ⊎ (tree_at v common xs ≡ common)
entry_or_common G common v [] each = inr refl
entry_or_common G common v (x ∷ xs) each = one (text_eq (key x) v) refl (Each-head each) (entry_or_common G common v xs (Each-tail each))
  where
    one : (b : Bool) → text_eq (key x) v ≡ b → G (key x) (first_part x) → G v (tree_at v common xs) ⊎ (tree_at v common xs ≡ common)
        → G v (if b then first_part x else tree_at v common xs) ⊎ ((if b then first_part x else tree_at v common xs) ≡ common)
    one true e here later = inl (subst (λ u. G u (first_part x)) ((text_eq-decides (key x) v).0 e) here)
    one false e here later = later

module _ (y : Form) (p : List ℕ) (e : Environment) (a : PlainAction) where
  -- where outside is answered so on the first action, each value is that the body doesn't see
  pub unseen_first : (s b : Bool) → first_or_stays s y (bind p None e) a ≡ b → UnseenFirst b s y p e a
  unseen_first s b outside v n =
      let agree : AtomsAgreeAt y (bind p (Some v) e) (bind p None e) a = unseen-outside y e p v a n in
      (λ i. moves_within (not s || atoms_alphabet a y (bind p (Some v) e) (bind p None e) agree i) (first_alike a y (bind p (Some v) e) (bind p None e) agree i))
      ∙ outside

  -- where each atom names the parameter, no value begins that the body doesn't see
  pub unseen_out : EachAtomNames p y → UnseenFirst false false y p e a
  unseen_out names = unseen_first false false (none_first p a y (bind p None e) names (given_outside p e))

  -- and none goes on
  pub unseen_dead : EachAtomNames p y → (v : List ℕ) → ¬ Sees y p v a → (t : Plain) → may y (bind p (Some v) e) t a ≡ false
  unseen_dead names v n t =
      may_alike a y t (bind p (Some v) e) (bind p None e) (unseen-outside y e p v a n) ∙ none_next p a y (bind p None e) t names (given_outside p e)

module _ (y : Form) (p : List ℕ) (e : Environment) (a : PlainAction) (common : Plain) (xs : List Plain) where
  -- where outside and every entry are answered alike, so is every value that the body doesn't see
  pub unseen_alike : (s b : Bool) → may_or_stays s y (bind p None e) common a ≡ b → Each (λ x. may_or_stays s y (bind p (Some (key x)) e) (first_part x) a ≡ b) xs
      → UnseenAnswer b s y p e a common xs
  unseen_alike s b outside each v n =
      let agree : AtomsAgreeAt y (bind p (Some v) e) (bind p None e) a = unseen-outside y e p v a n in
      elim (entry_or_common (λ u t. may_or_stays s y (bind p (Some u) e) t a ≡ b) common v xs each) [
        | inl k ↦ k
        | inr same ↦
            ap (λ t. may_or_stays s y (bind p (Some v) e) t a) same
            ∙ (λ i. moves_within (not s || atoms_alphabet a y (bind p (Some v) e) (bind p None e) agree i) (may_alike a y common (bind p (Some v) e) (bind p None e) agree i))
            ∙ outside
      ]

  -- where neither outside nor an entry goes on, no value goes on that the body doesn't see
  pub unseen_none : may y (bind p None e) common a ≡ false → list_any (λ x. may y (bind p (Some (key x)) e) (first_part x) a) xs ≡ false
      → UnseenAnswer false false y p e a common xs
  unseen_none outside none = unseen_alike false false outside (none_to (λ x. may y (bind p (Some (key x)) e) (first_part x) a) xs none)

  -- where outside and each entry go on, each value goes on that the body doesn't see
  pub unseen_all : (s : Bool) → may_or_stays s y (bind p None e) common a ≡ true → list_all (λ x. may_or_stays s y (bind p (Some (key x)) e) (first_part x) a) xs ≡ true
      → UnseenAnswer true s y p e a common xs
  unseen_all s outside each = unseen_alike s true outside (all_to (λ x. may_or_stays s y (bind p (Some (key x)) e) (first_part x) a) xs each)

  -- nor in a map where it has an entry
  pub unseen_own : EachAtomNames p y → (v : List ℕ) → ¬ Sees y p v a → may_own y p e a xs v ≡ false
  unseen_own names v n =
      let agree : AtomsAgreeAt y (bind p (Some v) e) (bind p None e) a = unseen-outside y e p v a n in
      if_false (is_dead (tree_at v dead xs)) (unseen_out y p e a names v n)
      (may_alike a y (tree_at v dead xs) (bind p (Some v) e) (bind p None e) agree ∙ none_next p a y (bind p None e) (tree_at v dead xs) names (given_outside p e))

  outside_stays : (b m : Bool) → b ≡ false → moves_within b m ≡ true
  outside_stays false m h = refl
  outside_stays true m h = absurd (true≢false h)

  -- where outside isn't in the alphabet, a value stays that the body doesn't see
  pub unseen_stay : in_alphabet y (bind p None e) a ≡ false → UnseenAnswer true true y p e a common xs
  unseen_stay outside v n =
      outside_stays _ (may y (bind p (Some v) e) (tree_at v common xs) a)
      (atoms_alphabet a y (bind p (Some v) e) (bind p None e) (unseen-outside y e p v a n) ∙ outside)

  -- a value that isn't one of the action's is in the alphabet only where outside is
  pub unused_outside : (v : List ℕ) → ¬ Member v a.values → in_alphabet y (bind p None e) a ≡ false → in_alphabet y (bind p (Some v) e) a ≡ false
  unused_outside v n outside = one (in_alphabet y (bind p (Some v) e) a) refl
    where
      one : (b : Bool) → in_alphabet y (bind p (Some v) e) a ≡ b → in_alphabet y (bind p (Some v) e) a ≡ false
      one false h = h
      one true h =
          let i = alphabet-leads y a (unused-leads p v e a.values n) ((alphabet_says y (bind p (Some v) e) a).0 h) in
          absurd (true≢false (sym ((alphabet_says y (bind p None e) a).1 i) ∙ outside))

  -- where outside isn't in the alphabet and each of the action's values goes on or stays, so does each entry's
  pub entries_stay : Ascending (λ x z. text_cmp (key x) (key z)) xs → in_alphabet y (bind p None e) a ≡ false
      → list_all (λ v. may_or_stays true y (bind p (Some v) e) (tree_at v common xs) a) a.values ≡ true
      → list_all (λ x. may_or_stays true y (bind p (Some (key x)) e) (first_part x) a) xs ≡ true
  entries_stay ascending outside own =
      all_from (λ x. may_or_stays true y (bind p (Some (key x)) e) (first_part x) a) (Each-weaker one (tree_at_own common xs ascending))
    where
      one : (x : Plain) → tree_at (key x) common xs ≡ first_part x → may_or_stays true y (bind p (Some (key x)) e) (first_part x) a ≡ true
      one x same = elim (member-or-not (key x) a.values) [
        | inl m ↦
            ap (λ t. may_or_stays true y (bind p (Some (key x)) e) t a) (sym same)
            ∙ Each-member (all_to (λ v. may_or_stays true y (bind p (Some v) e) (tree_at v common xs) a) a.values own) m
        | inr n ↦ outside_stays _ (may y (bind p (Some (key x)) e) (first_part x) a) (unused_outside (key x) n outside)
      ]

  alone : (o each own : Bool) → o ≡ true → (own ≡ true → each ≡ true) → own ≡ (o && (each && own))
  alone true each true h k = sym (ap (λ b. b && true) (k refl))
  alone true true false h k = refl
  alone true false false h k = refl
  alone false each own h k = absurd (true≢false (sym h))

  -- so then the action's values alone tell whether all go on or stay
  pub own_tell : Ascending (λ x z. text_cmp (key x) (key z)) xs → in_alphabet y (bind p None e) a ≡ false
      → (own : Bool) → own ≡ list_all (λ v. may_or_stays true y (bind p (Some v) e) (tree_at v common xs) a) a.values
      → own ≡ each_may_or_stays true y p e a common xs
  own_tell ascending outside own is =
      is
      ∙ alone (may_or_stays true y (bind p None e) common a) (list_all (λ x. may_or_stays true y (bind p (Some (key x)) e) (first_part x) a) xs) (list_all (λ v. may_or_stays true y (bind p (Some v) e) (tree_at v common xs) a) a.values)
      (outside_stays (in_alphabet y (bind p None e) a) (may y (bind p None e) common a) outside) (entries_stay ascending outside)
