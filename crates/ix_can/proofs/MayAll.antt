-- From the tree of a word one tells whether the word with one more action is partial: the quantifier all.
use Rattle.std.proofs.Common.{◌≡◌, ◌↔◌, ◌⊎◌, inl, inr, ℕ, Bool, true, false, List, [], ◌∷◌, ◌++◌, Some, cond, flat_map, length, refl, sym, ap, ◌∙◌, subst, if◌then◌else◌}
use Rattle.std.specs.List.{list_any, list_all}
use Rattle.ix_words.specs.Each.{Member, here}
use Rattle.ix_words.specs.Parts.{part}
use Rattle.ix_words.proofs.Canon.{Member-cases, Member-map, map-Member, Member-flat_map, flat_map-Member}
use Rattle.ix_words.proofs.Laws.{parts_grow}
use Rattle.ix_values.specs.Order.{text_eq}
use Rattle.ix_values.specs.PlainAction.{PlainAction, Word}
use Rattle.ix_expr.specs.Form.{Form, all}
use Rattle.ix_expr.specs.Environment.{Environment, bind}
use Rattle.ix_expr.specs.Meaning.{IsPartial}
use Rattle.ix_expr.specs.Laws.{EachAtomNames}
use Rattle.ix_expr.proofs.LawsOfMeaning.{empty-partial, prefix-partial, owners-among}
use Rattle.ix_tree.specs.Plain.{Plain, dead, all as all_tree, map as map_of}
use Rattle.ix_tree.specs.Order.{first_part}
use Rattle.ix_can.specs.Ways.{is_empty, ownings}
use Rattle.ix_can.specs.Nodes.{is_dead, is_live, same_tree, items_of, set_of}
use Rattle.ix_can.specs.TreeOf.{tree_of}
use Rattle.ix_can.specs.May.{may_first, may, tree_at}
use Rattle.ix_words.proofs.Deciding.{iff_trans, iff_sym, any_says, any_from}
use Rattle.ix_can.proofs.Lists.{same_test, SomeWay, when_passes, one_passes, made_says}
use Rattle.ix_can.proofs.Nodes.{same_is, any_set}
use Rattle.ix_can.proofs.Agreeing.{empty_tree}
use Rattle.ix_can.proofs.OperatorsTell.{Tells}
use Rattle.ix_can.proofs.QuantifiersTell.{all_told, unused_part, owned_says, initial, owned_tree, owned_entries, owned_map, owned_live}
use Rattle.ix_can.proofs.MayTell.{Begins, MayTells, node_may}
use Rattle.ix_can.proofs.Maps.{same_or_other, tree_in_map, give_owner, ownings_end, ownings_long, own_part, other_part}

module _ (p : List ℕ) (y : Form) (e : Environment) (a : PlainAction) where
  abbrev given : List ℕ → Environment
  given v = bind p (Some v) e

  -- the owners' parts are partial, and so is that of one of the action's values with the action behind it
  abbrev Goes : Word → List (List ℕ) → Type 0
  Goes w owners = ((v : List ℕ) → IsPartial y (given v) (part (text_eq v) owners w)) × SomeWay (λ v. IsPartial y (given v) (part (text_eq v) owners w ++ a ∷ [])) a.values

  -- the parts of all values are partial
  abbrev AreOwned : Word → List (List ℕ) → Type 0
  AreOwned w owners = (v : List ℕ) → IsPartial y (given v) (part (text_eq v) owners w)

  given_to : (w : Word) (owners : List (List ℕ)) (v : List ℕ) → length owners ≡ length w → AreOwned w owners → IsPartial y (given v) (part (text_eq v) owners w ++ a ∷ []) → AreOwned (w ++ a ∷ []) (owners ++ v ∷ [])
  given_to w owners v l h q u = by_value (same_or_other u v)
    where
      by_value : (u ≡ v) ⊎ (text_eq u v ≡ false) → IsPartial y (given u) (part (text_eq u) (owners ++ v ∷ []) (w ++ a ∷ []))
      by_value (inl s) = subst (λ x. IsPartial y (given x) (part (text_eq x) (owners ++ v ∷ []) (w ++ a ∷ []))) (sym s) (subst (IsPartial y (given v)) (sym (own_part owners w a v l)) q)
      by_value (inr d) = subst (IsPartial y (given u)) (sym (other_part owners w a v l u d)) (h u)

  -- a part of the word is partial where that of the longer word is
  pub part_before : (w : Word) (owners : List (List ℕ)) (v u : List ℕ) → length owners ≡ length w → IsPartial y (given u) (part (text_eq u) (owners ++ v ∷ []) (w ++ a ∷ [])) → IsPartial y (given u) (part (text_eq u) owners w)
  part_before w owners v u l h =
      prefix-partial y (given u) (part (text_eq u) owners w) (cond (text_eq u v) (a ∷ []) [])
      (subst (IsPartial y (given u)) (parts_grow (text_eq u) owners w v a l) h)

  given_from : (w : Word) (owners : List (List ℕ)) (v : List ℕ) → length owners ≡ length w → AreOwned (w ++ a ∷ []) (owners ++ v ∷ []) → AreOwned w owners × IsPartial y (given v) (part (text_eq v) owners w ++ a ∷ [])
  given_from w owners v l h = (λ u. part_before w owners v u l (h u), subst (IsPartial y (given v)) (own_part owners w a v l) (h v))

  goes_to : (w : Word) → SomeWay (Goes w) (ownings w) → SomeWay (AreOwned (w ++ a ∷ [])) (ownings (w ++ a ∷ []))
  goes_to w k =
      let v : List ℕ = k.has.1.way in
      record {
        way = k.way ++ v ∷ [];
        among = (ownings_end w a).from (k.way ++ v ∷ []) (flat_map-Member (give_owner a) k.among (map-Member (λ u. k.way ++ u ∷ []) k.has.1.among));
        has = given_to w k.way v (ownings_long w k.way k.among) k.has.0 k.has.1.has;
      }

  goes_from : (w : Word) → SomeWay (AreOwned (w ++ a ∷ [])) (ownings (w ++ a ∷ [])) → SomeWay (Goes w) (ownings w)
  goes_from w k =
      let j = Member-flat_map (give_owner a) (ownings w) ((ownings_end w a).to k.way k.among) in
      let i = Member-map (λ u. j.0 ++ u ∷ []) a.values j.2 in
      let g = given_from w j.0 i.0 (ownings_long w j.0 j.1) (subst (AreOwned (w ++ a ∷ [])) i.2 k.has) in
      record { way = j.0; among = j.1; has = (g.0, record { way = i.0; among = i.1; has = g.1 }) }

  -- the longer word is partial exactly where some owner of the word's parts takes the action
  owned_end : EachAtomNames p y → (w : Word) → SomeWay (Goes w) (ownings w) ↔ IsPartial (all p y) e (w ++ a ∷ [])
  owned_end n w = iff_trans (goes_to w, goes_from w) (iff_trans (owned_says p y e {Q = λ v. IsPartial y (given v)} (w ++ a ∷ [])) (iff_sym (owners-among p y e (w ++ a ∷ []) n).partial))

  some_passes : {G : List ℕ → Type 0} (test : List ℕ → Bool) (values : List (List ℕ)) → ((v : List ℕ) → (test v ≡ true) ↔ G v) → (list_any test values ≡ true) ↔ SomeWay G values
  some_passes test values says = (
    λ h. let k = (any_says test values).0 h in record { way = k.which; among = k.among; has = (says k.which).0 k.passes },
    λ k. any_from test values k.among ((says k.way).1 k.has),
  )

  only_owners : SomeWay (λ v. IsPartial y (given v) (a ∷ [])) a.values ↔ SomeWay (Goes []) (ownings [])
  only_owners = (
    λ k. record { way = []; among = here; has = (λ v. empty-partial y (given v), k) },
    λ k. from k.way k.has.1 (Member-cases k.among),
  )
    where
      from : (owners : List (List ℕ)) → SomeWay (λ v. IsPartial y (given v) (part (text_eq v) owners [] ++ a ∷ [])) a.values → (owners ≡ []) ⊎ Member owners [] → SomeWay (λ v. IsPartial y (given v) (a ∷ [])) a.values
      from owners k (inl s) = subst (λ ks. SomeWay (λ v. IsPartial y (given v) (part (text_eq v) ks [] ++ a ∷ [])) a.values) s k
      from owners k (inr m) = elim m [ ]

  -- the test of the first action
  pub first_all : EachAtomNames p y → ((f : Environment) → Begins a y f) → Begins a (all p y) e
  first_all n b = iff_trans (some_passes (λ v. may_first y (given v) a) a.values (λ v. b (given v))) (iff_trans only_owners (owned_end n []))

  -- what owns nothing has the initial tree
  pub outside_owners : (w : Word) (owners : List (List ℕ)) (v : List ℕ) → ¬ Member v owners → owned_tree p y e w owners v ≡ initial p y e
  outside_owners w owners v n = ap (tree_of y (given v)) (unused_part p y e v owners w n) ∙ empty_tree y (given v) e

  module _ (k : (f : Environment) → Tells y f) (b : (f : Environment) → Begins a y f) (m : (f : Environment) → MayTells a y f) where
    -- the value's tree, or none, tells whether the value may take the action
    abbrev may_take : List ℕ → Plain → Bool
    may_take v t = if is_dead t then may_first y (given v) a else may y (given v) t a

    abbrev test_map : Plain → Bool
    test_map x = list_any (λ v. may_take v (tree_at v dead (items_of (first_part x)))) a.values

    take_tells : (w : Word) (owners : List (List ℕ)) (v : List ℕ) → IsPartial y (given v) (part (text_eq v) owners w) → (may_take v (tree_at v dead (items_of (set_of (owned_entries p y e w owners)))) ≡ true) ↔ IsPartial y (given v) (part (text_eq v) owners w ++ a ∷ [])
    take_tells w owners v h =
        same_test
        (ap (may_take v) (tree_in_map (initial p y e) (owned_tree p y e w owners) owners (outside_owners w owners) v))
        (chosen (same_tree tree (initial p y e)) refl)
      where
        tree : Plain
        tree = owned_tree p y e w owners v

        chosen : (c : Bool) → same_tree tree (initial p y e) ≡ c → (may_take v (if c then dead else tree) ≡ true) ↔ IsPartial y (given v) (part (text_eq v) owners w ++ a ∷ [])
        chosen true s =
            let same : tree_of y (given v) [] ≡ tree = empty_tree y (given v) e ∙ sym (same_is tree (initial p y e) s) in
            iff_trans (b (given v))
            (iff_trans (iff_sym (m (given v) []))
            (same_test (ap (λ t. may y (given v) t a) same) (m (given v) (part (text_eq v) owners w))))
        chosen false s =
            same_test (ap (λ c. if c then may_first y (given v) a else may y (given v) tree a) ((k (given v) (part (text_eq v) owners w)).partial.1 h))
            (m (given v) (part (text_eq v) owners w))

    map_may : (w : Word) (owners : List (List ℕ)) → (list_any test_map (owned_map p y e w owners) ≡ true) ↔ Goes w owners
    map_may w owners =
        let one : Plain = map_of (set_of (owned_entries p y e w owners)) in
        let live : (list_all (λ v. is_live (owned_tree p y e w owners v)) owners ≡ true) ↔ AreOwned w owners = owned_live p y e (λ v. k (bind p v e)) w owners in
        let says : AreOwned w owners → (test_map one ≡ true) ↔ SomeWay (λ v. IsPartial y (given v) (part (text_eq v) owners w ++ a ∷ [])) a.values =
        λ h. some_passes (λ v. may_take v (tree_at v dead (items_of (set_of (owned_entries p y e w owners))))) a.values (λ v. take_tells w owners v (h v)) in
        iff_trans (when_passes test_map (list_all (λ v. is_live (owned_tree p y e w owners v)) owners) (one ∷ [])) (
          λ h. let g = live.0 h.0 in (g, (says g).0 ((one_passes test_map one).0 h.1)),
          λ h. (live.1 h.0, (one_passes test_map one).1 ((says h.0).1 h.1)),
        )

    -- the test on the tree of a word
    pub all_may : EachAtomNames p y → MayTells a (all p y) e
    all_may n w =
        let maps : List Plain = flat_map (owned_map p y e w) (ownings w) in
        node_may a (all p y) e (is_empty maps) (all_tree (set_of maps)) refl (all_told p y e n (λ v. k (bind p v e)) (k e) w).partial (prefix-partial (all p y) e w (a ∷ []))
        (λ h. same_test (any_set test_map maps) (iff_trans (made_says test_map (owned_map p y e w) (ownings w) (λ owners i. map_may w owners)) (owned_end n w)))
