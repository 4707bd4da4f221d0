-- Of any, every and sync: the tree of a word moves to that of the word with one more action where the operand's does under each value.
use Rattle.std.proofs.Common.{◌≡◌, ℕ, Bool, true, false, cond, not, ◌&&◌, ◌||◌, List, [], ◌∷◌, ◌++◌, Option, Some, None, flat_map, append-nil, refl, sym, ap, ◌∙◌}
use Rattle.std.specs.List.{list_any, list_all}
use Rattle.ix_words.specs.Each.{Member}
use Rattle.ix_values.specs.PlainAction.{PlainAction, Word, values_of}
use Rattle.ix_expr.specs.Form.{Form, any, every, sync}
use Rattle.ix_expr.specs.Environment.{Environment, bind}
use Rattle.ix_expr.specs.Meaning.{IsPartial}
use Rattle.ix_expr.proofs.LawsOfMeaning.{agree-atoms, outside-agree}
use Rattle.ix_tree.specs.Plain.{Plain, any as any_tree, every as every_tree, sync as sync_tree}
use Rattle.ix_tree.specs.Order.{key, first_part}
use Rattle.ix_expr.specs.Tests.{in_alphabet, values_and_outside}
use Rattle.ix_can.specs.Ways.{is_empty}
use Rattle.ix_can.specs.Nodes.{is_dead, items_of, set_of, has_dead_entry}
use Rattle.ix_can.specs.TreeOf.{tree_of, entries_of}
use Rattle.ix_can.specs.May.{tree_at}
use Rattle.ix_can.specs.inside.Moved.{entry_with, moved_inside, moved, Moves}
use Rattle.ix_can.proofs.QuantifiersTell.{TellAll, entries, own, own_tree, own_entries, any_told, every_told, sync_told}
use Rattle.ix_can.proofs.Ends.{filter_end}
use Rattle.ix_can.proofs.MovesShared.{node_moves}
use Rattle.ix_can.proofs.MovesAlike.{atoms_alphabet, moved_alike}
use Rattle.ix_can.proofs.Entries.{entries_move}
use Rattle.ix_can.proofs.MayQuantifiers.{MayAll, values_end, given_outside, own_outside, any_may, every_may, sync_may}

module _ (p : List ℕ) (y : Form) (e : Environment) (a : PlainAction) where
  -- the operand's trees move under every value and outside
  abbrev pub MoveAll : Type 0
  MoveAll = (v : Option (List ℕ)) → Moves y (bind p v e) a

  -- the entries after the move, in terms of the common tree before and after it
  abbrev entries_after : Plain → List Plain → Plain → List Plain
  entries_after common items next =
      flat_map (λ x. entry_with next (key x) (moved y (bind p (Some (key x)) e) (first_part x) a)) items
      ++ flat_map (λ v. entry_with next v (moved y (bind p (Some v) e) (tree_at v common items) a)) a.values

  given_moves : MoveAll → (node : Plain → Plain → Plain) (w : Word) →
      node (moved y (bind p None e) (tree_of y (bind p None e) w) a)
      (set_of (entries_after (tree_of y (bind p None e) w) (items_of (set_of (entries p y e w))) (moved y (bind p None e) (tree_of y (bind p None e) w) a)))
      ≡ node (tree_of y (bind p None e) (w ++ a ∷ [])) (set_of (entries p y e (w ++ a ∷ [])))
  given_moves g node w =
      let common : Plain = tree_of y (bind p None e) w in
      let items : List Plain = items_of (set_of (entries p y e w)) in
      let next : Plain = tree_of y (bind p None e) (w ++ a ∷ []) in
      let after : List ℕ → Plain = λ v. tree_of y (bind p (Some v) e) (w ++ a ∷ []) in
      (λ i. node (g None w i) (set_of (entries_after common items (g None w i))))
      ∙ ap (node next)
      (entries_move common (λ v. tree_of y (bind p (Some v) e) w) (values_of w) (given_outside p y e w) a.values next after (λ v t. moved y (bind p (Some v) e) t a)
      (λ v. g (Some v) w)
      (λ v n. moved_alike a y common (bind p (Some v) e) (bind p None e) (agree-atoms y (bind p (Some v) e) (bind p None e) a (outside-agree e p v a n)) ∙ g None w))
      ∙ ap (λ vs. node next (set_of (entries_of next after vs))) (sym (values_end w a))

  pub any_moves : TellAll p y e → MayAll p y e a → MoveAll → Moves (any p y) e a
  any_moves k m g w =
      let common : Plain = tree_of y (bind p None e) w in
      let next : Plain = tree_of y (bind p None e) (w ++ a ∷ []) in
      node_moves {P = IsPartial (any p y) e (w ++ a ∷ [])} (any p y) e a
      (is_dead common && is_empty (entries p y e w))
      (is_dead next && is_empty (entries p y e (w ++ a ∷ [])))
      (any_tree common (set_of (entries p y e w)))
      (any_tree next (set_of (entries p y e (w ++ a ∷ []))))
      (any_tree (moved y (bind p None e) common a) (set_of (entries_after common (items_of (set_of (entries p y e w))) (moved y (bind p None e) common a))))
      refl
      (any_may p y e a k m w)
      refl
      (any_told p y e k (w ++ a ∷ [])).partial
      (λ b h. given_moves g any_tree w)

  pub every_moves : TellAll p y e → MayAll p y e a → MoveAll → Moves (every p y) e a
  every_moves k m g w =
      let common : Plain = tree_of y (bind p None e) w in
      let next : Plain = tree_of y (bind p None e) (w ++ a ∷ []) in
      node_moves {P = IsPartial (every p y) e (w ++ a ∷ [])} (every p y) e a
      (is_dead common || has_dead_entry (entries p y e w))
      (is_dead next || has_dead_entry (entries p y e (w ++ a ∷ [])))
      (every_tree common (set_of (entries p y e w)))
      (every_tree next (set_of (entries p y e (w ++ a ∷ []))))
      (every_tree (moved y (bind p None e) common a) (set_of (entries_after common (items_of (set_of (entries p y e w))) (moved y (bind p None e) common a))))
      refl
      (every_may p y e a k m w)
      refl
      (every_told p y e k (w ++ a ∷ [])).partial
      (λ b h. given_moves g every_tree w)

  -- Synchronisation

  -- the tree of the projected word moves where the action is inside
  abbrev own_moved : Option (List ℕ) → Plain → Plain
  own_moved v t = moved_inside (in_alphabet y (bind p v e) a) (moved y (bind p v e) t a) t

  own_moves : MoveAll → (v : Option (List ℕ)) (w : Word) → own_moved v (own_tree p y e w v) ≡ own_tree p y e (w ++ a ∷ []) v
  own_moves g v w =
      chosen (in_alphabet y (bind p v e) a) (own p y e v w) (g v (own p y e v w))
      ∙ ap (tree_of y (bind p v e)) (sym (filter_end (in_alphabet y (bind p v e)) w a))
    where
      chosen : (b : Bool) (u : Word) → moved y (bind p v e) (tree_of y (bind p v e) u) a ≡ tree_of y (bind p v e) (u ++ a ∷ []) → moved_inside b (moved y (bind p v e) (tree_of y (bind p v e) u) a) (tree_of y (bind p v e) u) ≡ tree_of y (bind p v e) (u ++ cond b (a ∷ []) [])
      chosen true u h = h
      chosen false u h = ap (tree_of y (bind p v e)) (sym (append-nil u))

  own_unmoved : (c : Plain) (v : List ℕ) → ¬ Member v a.values → own_moved (Some v) c ≡ own_moved None c
  own_unmoved c v n =
      let g = agree-atoms y (bind p (Some v) e) (bind p None e) a (outside-agree e p v a n) in
      (λ i. moved_inside (atoms_alphabet a y (bind p (Some v) e) (bind p None e) g i) (moved_alike a y c (bind p (Some v) e) (bind p None e) g i) c)

  -- the entries of the projected words after the move
  abbrev own_after : Plain → List Plain → Plain → List Plain
  own_after common items next =
      flat_map (λ x. entry_with next (key x) (own_moved (Some (key x)) (first_part x))) items
      ++ flat_map (λ v. entry_with next v (own_moved (Some v) (tree_at v common items))) a.values

  own_given_moves : MoveAll → (w : Word) →
      sync_tree (own_moved None (own_tree p y e w None)) (set_of (own_after (own_tree p y e w None) (items_of (set_of (own_entries p y e w))) (own_moved None (own_tree p y e w None))))
      ≡ sync_tree (own_tree p y e (w ++ a ∷ []) None) (set_of (own_entries p y e (w ++ a ∷ [])))
  own_given_moves g w =
      let common : Plain = own_tree p y e w None in
      let items : List Plain = items_of (set_of (own_entries p y e w)) in
      let next : Plain = own_tree p y e (w ++ a ∷ []) None in
      let after : List ℕ → Plain = λ v. own_tree p y e (w ++ a ∷ []) (Some v) in
      (λ i. sync_tree (own_moves g None w i) (set_of (own_after common items (own_moves g None w i))))
      ∙ ap (sync_tree next)
      (entries_move common (λ v. own_tree p y e w (Some v)) (values_of w) (own_outside p y e w) a.values next after (λ v t. own_moved (Some v) t)
      (λ v. own_moves g (Some v) w)
      (λ v n. own_unmoved common v n ∙ own_moves g None w))
      ∙ ap (λ vs. sync_tree next (set_of (entries_of next after vs))) (sym (values_end w a))

  pub sync_moves : TellAll p y e → MayAll p y e a → MoveAll → Moves (sync p y) e a
  sync_moves k m g w =
      let common : Plain = own_tree p y e w None in
      let next : Plain = own_tree p y e (w ++ a ∷ []) None in
      let inside : Word → Bool = list_all (λ b. list_any (λ v. in_alphabet y (bind p v e) b) (values_and_outside b)) in
      node_moves {P = IsPartial (sync p y) e (w ++ a ∷ [])} (sync p y) e a
      (not (inside w) || (is_dead common || has_dead_entry (own_entries p y e w)))
      (not (inside (w ++ a ∷ [])) || (is_dead next || has_dead_entry (own_entries p y e (w ++ a ∷ []))))
      (sync_tree common (set_of (own_entries p y e w)))
      (sync_tree next (set_of (own_entries p y e (w ++ a ∷ []))))
      (sync_tree (own_moved None common) (set_of (own_after common (items_of (set_of (own_entries p y e w))) (own_moved None common))))
      refl
      (sync_may p y e a k m w)
      refl
      (sync_told p y e k (w ++ a ∷ [])).partial
      (λ b h. own_given_moves g w)
