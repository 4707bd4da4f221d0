-- Of any, every and sync: the tests of the first action and of one more action, from those of the operand under each value.
use Rattle.std.proofs.Common.{◌≡◌, ◌↔◌, ℕ, Bool, true, not, ◌&&◌, ◌||◌, List, [], ◌∷◌, ◌++◌, Option, Some, None, map, filter, append-nil, refl, sym, ap, ◌∙◌, subst}
use Rattle.std.specs.List.{list_any, list_all}
use Rattle.ix_words.specs.Each.{no_item, item, Member}
use Rattle.ix_words.proofs.Canon.{flat_map-append}
use Rattle.ix_values.specs.PlainAction.{PlainAction, Word, values_of}
use Rattle.ix_expr.specs.Form.{Form, any, every, sync}
use Rattle.ix_expr.specs.Environment.{Environment, bind}
use Rattle.ix_expr.specs.Meaning.{InAlphabet, IsPartial}
use Rattle.ix_expr.proofs.LawsOfMeaning.{empty-partial, prefix-partial, agree-atoms, outside-agree, outside-same}
use Rattle.ix_tree.specs.Plain.{Plain, any as any_tree, every as every_tree, sync as sync_tree}
use Rattle.ix_expr.specs.Tests.{in_alphabet, values_and_outside}
use Rattle.ix_can.specs.Ways.{is_empty}
use Rattle.ix_can.specs.Nodes.{is_dead, set_of, has_dead_entry}
use Rattle.ix_can.specs.TreeOf.{tree_of}
use Rattle.ix_can.specs.May.{moves_within, may_first, may}
use Rattle.ix_words.proofs.Deciding.{itself, iff_trans, iff_sym, when_either, when_both}
use Rattle.ix_can.proofs.Lists.{both_iff, either_iff, each_iff, way_says, all_map, any_map}
use Rattle.ix_expr.proofs.Testing.{alphabet_says}
use Rattle.ix_can.proofs.Nodes.{fresh, fresh-new, some_value, every_value}
use Rattle.ix_can.proofs.QuantifiersTell.{TellAll, entries, own, Own, own_says, own_tree, own_entries, partial_outside, own_partial_outside, agree_outside, any_told, every_told, sync_told}
use Rattle.ix_can.proofs.Agreeing.{same_tree_of, own_alike, filter-each}
use Rattle.ix_can.proofs.Ends.{filter_end}
use Rattle.ix_can.proofs.MayTell.{Begins, MayTells, node_may, moved as moved_within_says, one_inside}
use Rattle.ix_can.proofs.MovesAlike.{atoms_alphabet, may_alike}
use Rattle.ix_can.proofs.Entries.{values_any, values_all}

-- the values of a longer word are those of the word and those of the action
pub values_end : (w : Word) (a : PlainAction) → values_of (w ++ a ∷ []) ≡ values_of w ++ a.values
values_end w a = flat_map-append (λ b. b.values) w (a ∷ []) ∙ ap (λ vs. values_of w ++ vs) (append-nil a.values)

module _ (p : List ℕ) (y : Form) (e : Environment) where
  -- a value that the word doesn't have has the common tree
  pub given_outside : (w : Word) (v : List ℕ) → ¬ Member v (values_of w) → tree_of y (bind p (Some v) e) w ≡ tree_of y (bind p None e) w
  given_outside w v n = same_tree_of y (bind p (Some v) e) (bind p None e) w (agree_outside p y e w v n)

  pub own_outside : (w : Word) (v : List ℕ) → ¬ Member v (values_of w) → own_tree p y e w (Some v) ≡ own_tree p y e w None
  own_outside w v n =
      let k = agree_outside p y e w v n in
      same_tree_of y (bind p (Some v) e) (bind p None e) (filter (in_alphabet y (bind p (Some v) e)) w) (filter-each (in_alphabet y (bind p (Some v) e)) w k)
      ∙ ap (tree_of y (bind p None e)) (own_alike k y)

  module _ (a : PlainAction) where
    -- the operand's test of the first action says under every value and outside whether it may come first
    abbrev pub BeginAll : Type 0
    BeginAll = (v : Option (List ℕ)) → Begins a y (bind p v e)

    -- the operand's test of one more action says under every value and outside whether it may come next
    abbrev pub MayAll : Type 0
    MayAll = (v : Option (List ℕ)) → MayTells a y (bind p v e)

    abbrev first_under : Option (List ℕ) → Bool
    first_under v = may_first y (bind p v e) a

    one_outside : (v : List ℕ) → ¬ Member v a.values → IsPartial y (bind p None e) (a ∷ []) ↔ IsPartial y (bind p (Some v) e) (a ∷ [])
    one_outside v n = iff_sym (outside-same y e p v (a ∷ []) (item n no_item)).partial

    pub first_any : BeginAll → Begins a (any p y) e
    first_any k = iff_trans
        (when_either (first_under None) (list_any first_under (map Some a.values)) (k None) (any_map first_under Some a.values (λ v m. k (Some v))))
        (some_value (λ v. IsPartial y (bind p v e) (a ∷ [])) a.values one_outside)

    pub first_every : BeginAll → Begins a (every p y) e
    first_every k = iff_trans
        (when_both (first_under None) (list_all first_under (map Some a.values)) (k None) (all_map first_under Some a.values (λ v m. k (Some v))))
        (every_value (λ v. IsPartial y (bind p v e) (a ∷ [])) a.values one_outside)

    -- a value that is neither the word's nor the action's
    beyond : (w : Word) (v : List ℕ) → ¬ Member v (values_of w ++ a.values) → ¬ Member v (values_of (w ++ a ∷ []))
    beyond w v n m = n (subst (Member v) (values_end w a) m)

    abbrev test_under : Option (List ℕ) → Plain → Bool
    test_under v t = may y (bind p v e) t a

    -- an action without the value may come next at it as outside
    test_unmoved : (c : Plain) (v : List ℕ) → ¬ Member v a.values → test_under (Some v) c ≡ test_under None c
    test_unmoved c v n = may_alike a y c (bind p (Some v) e) (bind p None e) (agree-atoms y (bind p (Some v) e) (bind p None e) a (outside-agree e p v a n))

    pub any_may : TellAll p y e → MayAll → MayTells a (any p y) e
    any_may k m w =
        let common : Plain = tree_of y (bind p None e) w in
        let tree : List ℕ → Plain = λ v. tree_of y (bind p (Some v) e) w in
        node_may a (any p y) e (is_dead common && is_empty (entries p y e w)) (any_tree common (set_of (entries p y e w))) refl (any_told p y e k w).partial (prefix-partial (any p y) e w (a ∷ []))
        (λ h. iff_trans
        (values_any common tree (values_of w) (given_outside w) a.values (λ v t. may y (bind p (Some v) e) t a) (may y (bind p None e) common a) (test_unmoved common))
        (iff_trans
        (either_iff (m None w) (way_says (λ v i. m (Some v) w)))
        (some_value (λ v. IsPartial y (bind p v e) (w ++ a ∷ [])) (values_of w ++ a.values) (λ v n. partial_outside p y e (w ++ a ∷ []) v (beyond w v n)))))

    pub every_may : TellAll p y e → MayAll → MayTells a (every p y) e
    every_may k m w =
        let common : Plain = tree_of y (bind p None e) w in
        let tree : List ℕ → Plain = λ v. tree_of y (bind p (Some v) e) w in
        node_may a (every p y) e (is_dead common || has_dead_entry (entries p y e w)) (every_tree common (set_of (entries p y e w))) refl (every_told p y e k w).partial (prefix-partial (every p y) e w (a ∷ []))
        (λ h. iff_trans
        (values_all common tree (values_of w) (given_outside w) a.values (λ v t. may y (bind p (Some v) e) t a) (may y (bind p None e) common a) (test_unmoved common))
        (iff_trans
        (both_iff (m None w) (each_iff (λ v. m (Some v) w)))
        (every_value (λ v. IsPartial y (bind p v e) (w ++ a ∷ [])) (values_of w ++ a.values) (λ v n. partial_outside p y e (w ++ a ∷ []) v (beyond w v n)))))

    -- Synchronisation

    abbrev inside_under : Option (List ℕ) → Bool
    inside_under v = in_alphabet y (bind p v e) a

    abbrev some_inside : Bool
    some_inside = list_any inside_under (values_and_outside a)

    -- where the word is partial under every value, it is so outside too
    all_own : (w : Word) → ((v : List ℕ) → Own p y e IsPartial w (Some v)) → (v : Option (List ℕ)) → Own p y e IsPartial w v
    all_own w h None = (own_partial_outside p y e w (fresh (values_of w)) (fresh-new (values_of w))).1 (h (fresh (values_of w)))
    all_own w h (Some v) = h v

    -- what isn't in the alphabet of a value doesn't touch it
    within_says : (w : Word) → ((v : List ℕ) → Own p y e IsPartial w (Some v)) → (v : Option (List ℕ)) {q : Bool} → (q ≡ true) ↔ IsPartial y (bind p v e) (own p y e v w ++ a ∷ []) → (moves_within (inside_under v) q ≡ true) ↔ Own p y e IsPartial (w ++ a ∷ []) v
    within_says w h v k = iff_trans
        (moved_within_says a (inside_under v) (IsPartial y (bind p v e)) (own p y e v w) ((own_says p y e IsPartial w v).1 (all_own w h v)) k)
        (iff_trans (
          λ i. subst (IsPartial y (bind p v e)) (sym (filter_end (in_alphabet y (bind p v e)) w a)) i,
          λ i. subst (IsPartial y (bind p v e)) (filter_end (in_alphabet y (bind p v e)) w a) i,
        )
        (own_says p y e IsPartial (w ++ a ∷ []) v))

    -- the longer word is partial exactly where the action is inside for some value and each value's projection is partial
    sync_end : (w : Word) → IsPartial (sync p y) e w → {q : Bool} → (q ≡ true) ↔ ((v : List ℕ) → Own p y e IsPartial (w ++ a ∷ []) (Some v)) → (some_inside && q ≡ true) ↔ IsPartial (sync p y) e (w ++ a ∷ [])
    sync_end w h {q} k = when_both some_inside q
        (one_inside a some_inside (alphabet_says (sync p y) e a) {H = λ b. (v : List ℕ) × InAlphabet y (bind p (Some v) e) b} itself w h.0)
        k

    pub first_sync : BeginAll → Begins a (sync p y) e
    first_sync k =
        let h : IsPartial (sync p y) e [] = empty-partial (sync p y) e in
        let test : Option (List ℕ) → Bool = λ v. moves_within (inside_under v) (first_under v) in
        let says : (v : Option (List ℕ)) → (test v ≡ true) ↔ Own p y e IsPartial (a ∷ []) v = λ v. within_says [] h.1 v (k v) in
        sync_end [] h
        (iff_trans
        (when_both (test None) (list_all test (map Some a.values)) (says None) (all_map test Some a.values (λ v m. says (Some v))))
        (every_value (Own p y e IsPartial (a ∷ [])) a.values (λ v n. own_partial_outside p y e (a ∷ []) v (beyond [] v n))))

    abbrev own_test : Option (List ℕ) → Plain → Bool
    own_test v t = moves_within (inside_under v) (may y (bind p v e) t a)

    own_test_unmoved : (c : Plain) (v : List ℕ) → ¬ Member v a.values → own_test (Some v) c ≡ own_test None c
    own_test_unmoved c v n =
        let g = agree-atoms y (bind p (Some v) e) (bind p None e) a (outside-agree e p v a n) in
        (λ i. moves_within (atoms_alphabet a y (bind p (Some v) e) (bind p None e) g i) (may_alike a y c (bind p (Some v) e) (bind p None e) g i))

    pub sync_may : TellAll p y e → MayAll → MayTells a (sync p y) e
    sync_may k m w =
        let common : Plain = own_tree p y e w None in
        let tree : List ℕ → Plain = λ v. own_tree p y e w (Some v) in
        let inside : Bool = list_all (λ b. list_any (λ v. in_alphabet y (bind p v e) b) (values_and_outside b)) w in
        node_may a (sync p y) e (not inside || (is_dead common || has_dead_entry (own_entries p y e w))) (sync_tree common (set_of (own_entries p y e w))) refl (sync_told p y e k w).partial (prefix-partial (sync p y) e w (a ∷ []))
        (λ h. let says : (v : Option (List ℕ)) → (own_test v (own_tree p y e w v) ≡ true) ↔ Own p y e IsPartial (w ++ a ∷ []) v = λ v. within_says w h.1 v (m v (own p y e v w)) in
        sync_end w h
        (iff_trans
        (values_all common tree (values_of w) (own_outside w) a.values (λ v t. own_test (Some v) t) (own_test None common) (own_test_unmoved common))
        (iff_trans
        (both_iff (says None) (each_iff (λ v. says (Some v))))
        (every_value (Own p y e IsPartial (w ++ a ∷ [])) (values_of w ++ a.values) (λ v n. own_partial_outside p y e (w ++ a ∷ []) v (beyond w v n))))))
