-- Of each quantifier: where the trees of its operand tell under every value, so do its own.
use Rattle.std.proofs.Common.{◌≡◌, ◌↔◌, ◌⊎◌, inl, inr, ℕ, Bool, true, false, not, ◌&&◌, ◌||◌, List, [], ◌∷◌, Option, Some, None, flat_map, filter, refl, sym, ap, ◌∙◌, subst, true≢false}
use Rattle.std.specs.List.{list_any, list_all}
use Rattle.ix_words.specs.Each.{Each, Member}
use Rattle.ix_words.specs.Parts.{part}
use Rattle.ix_words.specs.Words.{Projected}
use Rattle.ix_words.proofs.Each.{Each-weaker, Each-member, Each-members}
use Rattle.ix_words.proofs.Canon.{flat_map-Member}
use Rattle.ix_words.proofs.Owners.{part-unused}
use Rattle.ix_words.proofs.Words.{Projected-leads}
use Rattle.ix_values.specs.Order.{text_eq}
use Rattle.ix_values.specs.lemmas.Order.{text_eq-decides}
use Rattle.ix_values.specs.PlainAction.{PlainAction, Word, values_of}
use Rattle.ix_expr.specs.Form.{Form, any, every, sync, all}
use Rattle.ix_expr.specs.Environment.{Environment, bind}
use Rattle.ix_expr.specs.Meaning.{InAlphabet, IsComplete, IsPartial}
use Rattle.ix_expr.specs.Laws.{AgreeAt, AgreeOn, EachAtomNames, IsFresh, OwnedByValues}
use Rattle.ix_expr.proofs.Agreement.{alphabet-leads, member-or-not}
use Rattle.ix_expr.proofs.LawsOfMeaning.{empty-partial, complete-partial, complete-leads, partial-leads, agree-sym, outside-agree, outside-same, owners-among}
use Rattle.ix_tree.specs.Plain.{Plain, any as any_tree, every as every_tree, sync as sync_tree, all as all_tree, map as map_of}
use Rattle.ix_tree.specs.Order.{first_part}
use Rattle.ix_expr.specs.Tests.{in_alphabet, values_and_outside, accepts_empty}
use Rattle.ix_can.specs.Ways.{is_empty, ownings}
use Rattle.ix_can.specs.Nodes.{is_dead, is_live, is_ended, items_of, set_of, has_dead_entry}
use Rattle.ix_can.specs.TreeOf.{is_final, tree_of, entries_of, live_map}
use Rattle.ix_words.proofs.Deciding.{itself, iff_trans, iff_sym, when_either, when_both}
use Rattle.ix_can.proofs.Lists.{both_iff, either_iff, each_iff, same_test, unless_either, unless_not, SomeWay, all_are, when_passes, one_passes, made_says, way_says, passes_all, filled}
use Rattle.ix_can.proofs.OperatorsTell.{Tells}
use Rattle.ix_expr.proofs.Testing.{alphabet_says, empty_complete}
use Rattle.ix_can.proofs.Ways.{ownings_to, ownings_from}
use Rattle.ix_can.proofs.Spent.{final_is_done, live_ended, common_final, ended_any}
use Rattle.ix_can.proofs.Nodes.{node_tells, tree_live, any_set, all_set, entries_any, entries_all, entries_live, entries_some, fresh, fresh-new, some_value, every_value, projected_says}

-- a value that no action of the word has
unused_value : (w : Word) (v : List ℕ) → ¬ Member v (values_of w) → IsFresh v w
unused_value w v n = Each-members w (λ a m i. n (flat_map-Member (λ b. b.values) m i))

-- where the common tree and all entries' are ended and one of them is live, one is final
entries_ended : (y : Form) (common : Plain) (xs : List Plain) → is_ended common && list_all (λ x. is_ended (first_part x)) (items_of (set_of xs)) ≡ true →
    is_live common || list_any (λ x. is_live (first_part x)) xs ≡ true → is_final y common || list_any (λ x. is_final y (first_part x)) (items_of (set_of xs)) ≡ true
entries_ended y common xs s l =
    let items : List Plain = items_of (set_of xs) in
    let h = (when_both (is_ended common) (list_all (λ x. is_ended (first_part x)) items) itself itself).0 s in
    (when_either (is_final y common) (list_any (λ x. is_final y (first_part x)) items) itself itself).1
    (elim ((when_either (is_live common) (list_any (λ x. is_live (first_part x)) xs) itself itself).0 l) [
      | inl c ↦ inl (final_is_done y common (live_ended common c h.0))
      | inr k ↦ inr (ended_any y items h.1 (any_set (λ x. is_live (first_part x)) xs ∙ k))
    ])

module _ (p : List ℕ) (y : Form) (e : Environment) where
  -- the operand's trees tell under every value and outside
  abbrev pub TellAll : Type 0
  TellAll = (v : Option (List ℕ)) → Tells y (bind p v e)

  abbrev pub given : Option (List ℕ) → Word → Plain
  given v w = tree_of y (bind p v e) w

  pub partial_outside : (w : Word) (v : List ℕ) → ¬ Member v (values_of w) → IsPartial y (bind p None e) w ↔ IsPartial y (bind p (Some v) e) w
  partial_outside w v n = iff_sym (outside-same y e p v w (unused_value w v n)).partial

  complete_outside : (w : Word) (v : List ℕ) → ¬ Member v (values_of w) → IsComplete y (bind p None e) w ↔ IsComplete y (bind p (Some v) e) w
  complete_outside w v n = iff_sym (outside-same y e p v w (unused_value w v n)).complete

  abbrev pub entries : Word → List Plain
  entries w = entries_of (given None w) (λ v. given (Some v) w) (values_of w)

  pub any_told : TellAll → Tells (any p y) e
  any_told k w =
      let some_live : ((is_live (given None w) ≡ true) ⊎ SomeWay (λ v. is_live (given (Some v) w) ≡ true) (values_of w)) ↔ IsPartial (any p y) e w = iff_trans
      (either_iff (tree_live (given None w) (k None w)) (way_says (λ v m. tree_live (given (Some v) w) (k (Some v) w))))
      (some_value (λ v. IsPartial y (bind p v e) w) (values_of w) (partial_outside w)) in
      node_tells (any p y) (is_dead (given None w) && is_empty (entries w)) (any_tree (given None w) (set_of (entries w))) refl
      (iff_trans (entries_some (given None w) (λ v. given (Some v) w) (values_of w)) some_live)
      (λ h. same_test (ap (λ b. is_final y (given None w) || b) (any_set (λ x. is_final y (first_part x)) (entries w)))
      (iff_trans (entries_any (given None w) (λ v. given (Some v) w) (is_final y) (values_of w))
      (iff_trans
      (either_iff (k None w).complete (way_says (λ v m. (k (Some v) w).complete)))
      (some_value (λ v. IsComplete y (bind p v e) w) (values_of w) (complete_outside w)))))
      (complete-partial (any p y) e w)
      (λ h s. entries_ended y (given None w) (entries w) s ((entries_any (given None w) (λ v. given (Some v) w) is_live (values_of w)).1 (some_live.1 h)))

  pub every_told : TellAll → Tells (every p y) e
  every_told k w =
      node_tells (every p y) (is_dead (given None w) || has_dead_entry (entries w)) (every_tree (given None w) (set_of (entries w))) refl
      (iff_trans (entries_live (given None w) (λ v. given (Some v) w) (values_of w))
      (iff_trans
      (both_iff (tree_live (given None w) (k None w)) (each_iff (λ v. tree_live (given (Some v) w) (k (Some v) w))))
      (every_value (λ v. IsPartial y (bind p v e) w) (values_of w) (partial_outside w))))
      (λ h. same_test (ap (λ b. is_final y (given None w) && b) (all_set (λ x. is_final y (first_part x)) (entries w)))
      (iff_trans (entries_all (given None w) (λ v. given (Some v) w) (is_final y) (values_of w))
      (iff_trans
      (both_iff (k None w).complete (each_iff (λ v. (k (Some v) w).complete)))
      (every_value (λ v. IsComplete y (bind p v e) w) (values_of w) (complete_outside w)))))
      (complete-partial (every p y) e w)
      (λ h s. common_final y (given None w) (set_of (entries w)) s)

  -- the word projected to the operand's alphabet under a value
  abbrev pub own : Option (List ℕ) → Word → Word
  own v w = filter (in_alphabet y (bind p v e)) w

  abbrev pub Own : (Form → Environment → Word → Type 0) → Word → Option (List ℕ) → Type 0
  Own Q w v = Projected (InAlphabet y (bind p v e)) (Q y (bind p v e)) w

  pub own_says : (Q : Form → Environment → Word → Type 0) (w : Word) (v : Option (List ℕ)) → Q y (bind p v e) (own v w) ↔ Own Q w v
  own_says Q w v = projected_says (Q y (bind p v e)) (in_alphabet y (bind p v e)) (alphabet_says y (bind p v e)) w

  pub agree_outside : (w : Word) (v : List ℕ) → ¬ Member v (values_of w) → AgreeOn (bind p (Some v) e) (bind p None e) w
  agree_outside w v n = Each-weaker (λ a u. outside-agree e p v a u) (unused_value w v n)

  alphabet_moved : {f g : Environment} (a : PlainAction) → AgreeAt f g a → InAlphabet y f a → InAlphabet y g a
  alphabet_moved a k i = alphabet-leads y a (record { at = λ q u m. (k.agree q u m).0 }) i

  partial_moved : (f g : Environment) (w : Word) → AgreeOn f g w → Projected (InAlphabet y f) (IsPartial y f) w → Projected (InAlphabet y g) (IsPartial y g) w
  partial_moved f g w k h = Projected-leads {G = AgreeAt f g} alphabet_moved (λ a j i. alphabet_moved a (agree-sym j) i) (partial-leads y f g) w k h

  complete_moved : (f g : Environment) (w : Word) → AgreeOn f g w → Projected (InAlphabet y f) (IsComplete y f) w → Projected (InAlphabet y g) (IsComplete y g) w
  complete_moved f g w k h = Projected-leads {G = AgreeAt f g} alphabet_moved (λ a j i. alphabet_moved a (agree-sym j) i) (complete-leads y f g) w k h

  turned : {f g : Environment} {w : Word} → AgreeOn f g w → AgreeOn g f w
  turned k = Each-weaker (λ a j. agree-sym j) k

  pub own_partial_outside : (w : Word) (v : List ℕ) → ¬ Member v (values_of w) → Own IsPartial w None ↔ Own IsPartial w (Some v)
  own_partial_outside w v n = (
    partial_moved (bind p None e) (bind p (Some v) e) w (turned (agree_outside w v n)),
    partial_moved (bind p (Some v) e) (bind p None e) w (agree_outside w v n),
  )

  own_complete_outside : (w : Word) (v : List ℕ) → ¬ Member v (values_of w) → Own IsComplete w None ↔ Own IsComplete w (Some v)
  own_complete_outside w v n = (
    complete_moved (bind p None e) (bind p (Some v) e) w (turned (agree_outside w v n)),
    complete_moved (bind p (Some v) e) (bind p None e) w (agree_outside w v n),
  )

  abbrev pub own_tree : Word → Option (List ℕ) → Plain
  own_tree w v = tree_of y (bind p v e) (own v w)

  abbrev pub own_entries : Word → List Plain
  own_entries w = entries_of (own_tree w None) (λ v. own_tree w (Some v)) (values_of w)

  pub sync_told : TellAll → Tells (sync p y) e
  sync_told k w =
      let inside : Bool = list_all (λ a. list_any (λ v. in_alphabet y (bind p v e) a) (values_and_outside a)) w in
      let live_says : (v : Option (List ℕ)) → (is_live (own_tree w v) ≡ true) ↔ Own IsPartial w v = λ v. iff_trans (tree_live (own_tree w v) (k v (own v w))) (own_says IsPartial w v) in
      let final_says : (v : Option (List ℕ)) → (is_final y (own_tree w v) ≡ true) ↔ Own IsComplete w v = λ v. iff_trans (k v (own v w)).complete (own_says IsComplete w v) in
      node_tells (sync p y) (not inside || (is_dead (own_tree w None) || has_dead_entry (own_entries w))) (sync_tree (own_tree w None) (set_of (own_entries w))) refl
      (unless_either (not inside) (is_dead (own_tree w None) || has_dead_entry (own_entries w))
      (unless_not inside (all_are (λ a. list_any (λ v. in_alphabet y (bind p v e) a) (values_and_outside a)) (alphabet_says (sync p y) e) w))
      (iff_trans (entries_live (own_tree w None) (λ v. own_tree w (Some v)) (values_of w))
      (iff_trans
      (both_iff (live_says None) (each_iff (λ v. live_says (Some v))))
      (every_value (Own IsPartial w) (values_of w) (own_partial_outside w)))))
      (λ h. same_test (ap (λ b. is_final y (own_tree w None) && b) (all_set (λ x. is_final y (first_part x)) (own_entries w)))
      (iff_trans (entries_all (own_tree w None) (λ v. own_tree w (Some v)) (is_final y) (values_of w))
      (iff_trans
      (both_iff (final_says None) (each_iff (λ v. final_says (Some v))))
      (iff_trans (every_value (Own IsComplete w) (values_of w) (own_complete_outside w)) (λ g. (h.0, g), λ g. g.1)))))
      (complete-partial (sync p y) e w)
      (λ h s. common_final y (own_tree w None) (set_of (own_entries w)) s)

  -- Owners

  abbrev pub part_of : List (List ℕ) → Word → List ℕ → Word
  part_of owners w v = part (text_eq v) owners w

  not_own : (v : List ℕ) (owners : List (List ℕ)) → ¬ Member v owners → Each (λ u. text_eq v u ≡ false) owners
  not_own v owners n = Each-members owners (λ u m. other u m (text_eq v u) refl)
    where
      other : (u : List ℕ) → Member u owners → (b : Bool) → text_eq v u ≡ b → b ≡ false
      other u m true h = absurd (n (subst (λ x. Member x owners) (sym ((text_eq-decides v u).0 h)) m))
      other u m false h = refl

  pub unused_part : (v : List ℕ) (owners : List (List ℕ)) (w : Word) → ¬ Member v owners → part_of owners w v ≡ []
  unused_part v owners w n = part-unused (text_eq v) owners w (not_own v owners n)

  owners_say : (Q : List ℕ → Word → Type 0) (owners : List (List ℕ)) (w : Word) → ((v : List ℕ) → Q v []) → Each (λ v. Q v (part_of owners w v)) owners ↔ ((v : List ℕ) → Q v (part_of owners w v))
  owners_say Q owners w z = (λ h v. from h v (member-or-not v owners), λ h. Each-members owners (λ v m. h v))
    where
      from : Each (λ u. Q u (part_of owners w u)) owners → (v : List ℕ) → Member v owners ⊎ (¬ Member v owners) → Q v (part_of owners w v)
      from h v (inl m) = Each-member h m
      from h v (inr n) = subst (Q v) (sym (unused_part v owners w n)) (z v)

  pub owned_says : {Q : List ℕ → Word → Type 0} (w : Word) → SomeWay (λ owners. (v : List ℕ) → Q v (part_of owners w v)) (ownings w) ↔ OwnedByValues Q w
  owned_says w = (
    λ k. record { owners = k.way; are_values = ownings_to w k.way k.among; each_has = k.has },
    λ h. record { way = h.owners; among = ownings_from h.are_values; has = h.each_has },
  )

  abbrev pub initial : Plain
  initial = tree_of y e []

  abbrev pub owned_tree : Word → List (List ℕ) → List ℕ → Plain
  owned_tree w owners v = tree_of y (bind p (Some v) e) (part_of owners w v)

  abbrev pub owned_entries : Word → List (List ℕ) → List Plain
  owned_entries w owners = entries_of initial (owned_tree w owners) owners

  abbrev pub owned_map : Word → List (List ℕ) → List Plain
  owned_map w owners = live_map initial (owned_tree w owners) owners

  abbrev map_final : Plain → Bool
  map_final m = list_all (λ x. is_final y (first_part x)) (items_of (first_part m))

  pub owned_live : TellAll → (w : Word) (owners : List (List ℕ)) → (list_all (λ v. is_live (owned_tree w owners v)) owners ≡ true) ↔ ((v : List ℕ) → IsPartial y (bind p (Some v) e) (part_of owners w v))
  owned_live k w owners = iff_trans
      (all_are (λ v. is_live (owned_tree w owners v)) (λ v. tree_live (owned_tree w owners v) (k (Some v) (part_of owners w v))) owners)
      (owners_say (λ v u. IsPartial y (bind p (Some v) e) u) owners w (λ v. empty-partial y (bind p (Some v) e)))

  map_says : TellAll → (w : Word) (owners : List (List ℕ)) → (list_any passes_all (owned_map w owners) ≡ true) ↔ ((v : List ℕ) → IsPartial y (bind p (Some v) e) (part_of owners w v))
  map_says k w owners = iff_trans
      (when_passes passes_all (list_all (λ v. is_live (owned_tree w owners v)) owners) (map_of (set_of (owned_entries w owners)) ∷ []))
      (iff_trans (λ h. h.0, λ h. (h, refl)) (owned_live k w owners))

  initial_final : Tells y e → accepts_empty y ≡ true → is_final y initial ≡ true
  initial_final l a = (l []).complete.1 ((empty_complete y e).0 a)

  owned_final : TellAll → Tells y e → accepts_empty y ≡ true → (w : Word) (owners : List (List ℕ)) → (list_all (λ x. is_final y (first_part x)) (owned_entries w owners) ≡ true) ↔ ((v : List ℕ) → IsComplete y (bind p (Some v) e) (part_of owners w v))
  owned_final k l a w owners = iff_trans (
    λ h. ((entries_all initial (owned_tree w owners) (is_final y) owners).0 ((when_both (is_final y initial) (list_all (λ x. is_final y (first_part x)) (owned_entries w owners)) itself itself).1 (initial_final l a, h))).1,
    λ h. ((when_both (is_final y initial) (list_all (λ x. is_final y (first_part x)) (owned_entries w owners)) itself itself).0 ((entries_all initial (owned_tree w owners) (is_final y) owners).1 (initial_final l a, h))).1,
  )
      (iff_trans
      (each_iff (λ v. (k (Some v) (part_of owners w v)).complete))
      (owners_say (λ v u. IsComplete y (bind p (Some v) e) u) owners w (λ v. (empty_complete y (bind p (Some v) e)).0 a)))

  map_final_says : TellAll → Tells y e → accepts_empty y ≡ true → (w : Word) (owners : List (List ℕ)) → (list_any map_final (owned_map w owners) ≡ true) ↔ ((v : List ℕ) → IsComplete y (bind p (Some v) e) (part_of owners w v))
  map_final_says k l a w owners =
      let here : Plain = map_of (set_of (owned_entries w owners)) in
      iff_trans
      (when_passes map_final (list_all (λ v. is_live (owned_tree w owners v)) owners) (here ∷ []))
      (iff_trans
      (both_iff (owned_live k w owners)
      (iff_trans (one_passes map_final here)
      (same_test (all_set (λ x. is_final y (first_part x)) (owned_entries w owners)) (owned_final k l a w owners))))
      (λ h. h.1, λ h. (λ v. complete-partial y (bind p (Some v) e) (part_of owners w v) (h v), h)))

  -- some value owns nothing, so the empty word is complete
  accepts_from : (w : Word) → OwnedByValues (λ v. IsComplete y (bind p (Some v) e)) w → accepts_empty y ≡ true
  accepts_from w h =
      let v : List ℕ = fresh h.owners in
      (empty_complete y (bind p (Some v) e)).1
      (subst (IsComplete y (bind p (Some v) e)) (unused_part v h.owners w (fresh-new h.owners)) (h.each_has v))

  pub all_told : EachAtomNames p y → TellAll → Tells y e → Tells (all p y) e
  all_told n k l w =
      let maps : List Plain = flat_map (owned_map w) (ownings w) in
      let final : accepts_empty y ≡ true → (list_any map_final maps ≡ true) ↔ OwnedByValues (λ v. IsComplete y (bind p (Some v) e)) w = λ a. iff_trans (made_says map_final (owned_map w) (ownings w) (λ owners m. map_final_says k l a w owners)) (owned_says w) in
      node_tells (all p y) (is_empty maps) (all_tree (set_of maps)) refl
      (iff_trans (filled maps)
      (iff_trans (made_says passes_all (owned_map w) (ownings w) (λ owners m. map_says k w owners))
      (iff_trans (owned_says w) (iff_sym (owners-among p y e w n).partial))))
      (λ h. same_test (ap (λ b. accepts_empty y && b) (any_set map_final maps))
      (iff_trans (
        λ i. let j = (when_both (accepts_empty y) (list_any map_final maps) itself itself).0 i in (final j.0).0 j.1,
        λ c. let a = accepts_from w c in (when_both (accepts_empty y) (list_any map_final maps) itself itself).1 (a, (final a).1 c),
      )
      (iff_sym (owners-among p y e w n).complete)))
      (complete-partial (all p y) e w)
      (λ h s. absurd (true≢false (sym s)))
