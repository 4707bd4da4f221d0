-- The tree of a word moves to the tree of the word with one more action: the quantifier all.
use Rattle.std.proofs.Common.{◌≡◌, ℕ, Bool, true, false, List, [], ◌∷◌, ◌++◌, Some, flat_map, length, append-nil, refl, sym, ap, ◌∙◌}
use Rattle.std.specs.List.{list_all}
use Rattle.ix_words.specs.Parts.{part}
use Rattle.ix_words.specs.Canon.{SameMembers, when}
use Rattle.ix_words.proofs.Canon.{SameMembers-refl, SameMembers-eq, SameMembers-sym, SameMembers-trans, SameMembers-flat_map, flat_map-flat_map}
use Rattle.ix_values.specs.Order.{text_eq}
use Rattle.ix_values.specs.PlainAction.{PlainAction, Word}
use Rattle.ix_expr.specs.Form.{Form, all}
use Rattle.ix_expr.specs.Environment.{Environment, bind}
use Rattle.ix_expr.specs.Meaning.{IsPartial}
use Rattle.ix_expr.specs.Laws.{EachAtomNames}
use Rattle.ix_tree.specs.Plain.{Plain, dead, all as all_tree, map as map_of}
use Rattle.ix_tree.specs.Order.{first_part}
use Rattle.ix_can.specs.Ways.{is_empty, ownings}
use Rattle.ix_can.specs.Nodes.{is_dead, is_live, items_of, set_of}
use Rattle.ix_can.specs.TreeOf.{tree_of}
use Rattle.ix_can.specs.May.{tree_at}
use Rattle.ix_can.specs.inside.Moved.{map_with, or_initial, moved, Moves}
use Rattle.ix_can.proofs.Nodes.{tree_live}
use Rattle.ix_can.proofs.Agreeing.{flat_map-alike, empty_tree}
use Rattle.ix_can.proofs.OperatorsTell.{Tells}
use Rattle.ix_can.proofs.QuantifiersTell.{all_told, initial, owned_tree, owned_entries, owned_map, owned_live}
use Rattle.ix_can.proofs.MayTell.{Begins, MayTells}
use Rattle.ix_can.proofs.MovesShared.{node_moves, set_same, set_made, flat_map-map}
use Rattle.ix_can.proofs.Maps.{found_in_map, map_moves, no_map, give_owner, ownings_end, ownings_long, own_part, other_part}
use Rattle.ix_can.proofs.MayAll.{part_before, outside_owners, all_may}

nothing_made : {A B : Type 0} (make : A → List B) (w : List A) → ((a : A) → make a ≡ []) → flat_map make w ≡ []
nothing_made make [] n = refl
nothing_made make (a ∷ w) n = (λ i. n a i ++ nothing_made make w n i)

module _ (p : List ℕ) (y : Form) (e : Environment) (a : PlainAction) (k : (f : Environment) → Tells y f) (g : (f : Environment) → Moves y f a) where
  abbrev given : List ℕ → Environment
  given v = bind p (Some v) e

  -- the map in which the value takes the action, where i is the initial tree
  abbrev taken : Plain → Plain → List ℕ → List Plain
  taken i x v = map_with i v (moved y (given v) (or_initial i (tree_at v dead (items_of (first_part x)))) a) (items_of (first_part x))

  -- the maps in which some value of the action takes it
  abbrev moved_map : Plain → List Plain
  moved_map x = flat_map (taken (tree_of y [] []) x) a.values

  module _ (w : Word) (owners : List (List ℕ)) (long : length owners ≡ length w) where
    abbrev before : List ℕ → Plain
    before = owned_tree p y e w owners

    abbrev next : List ℕ → List ℕ → Plain
    next v = owned_tree p y e (w ++ a ∷ []) (owners ++ v ∷ [])

    abbrev one_map : Plain
    one_map = map_of (set_of (owned_entries p y e w owners))

    as_before : (v u : List ℕ) → text_eq u v ≡ false → next v u ≡ before u
    as_before v u d = ap (tree_of y (given u)) (other_part owners w a v long u d)

    -- the value's tree moves to its next tree
    value_moves : (v : List ℕ) → is_dead (before v) ≡ false → moved y (given v) (or_initial (initial p y e) (tree_at v dead (items_of (first_part one_map)))) a ≡ next v v
    value_moves v l =
        ap (λ t. moved y (given v) t a) (found_in_map (initial p y e) before owners (outside_owners p y e a w owners) v l)
        ∙ g (given v) (part (text_eq v) owners w)
        ∙ ap (tree_of y (given v)) (sym (own_part owners w a v long))

    map_moved : list_all (λ v. is_live (before v)) owners ≡ true → (v : List ℕ) → taken (tree_of y [] []) one_map v ≡ owned_map p y e (w ++ a ∷ []) (owners ++ v ∷ [])
    map_moved l v =
        let partial : IsPartial y (given v) (part (text_eq v) owners w) = (owned_live p y e (λ u. k (bind p u e)) w owners).0 l v in
        ap (λ i. taken i one_map v) (empty_tree y [] e)
        ∙ ap (λ t. map_with (initial p y e) v t (items_of (first_part one_map))) (value_moves v ((k (given v) (part (text_eq v) owners w)).partial.1 partial))
        ∙ map_moves (initial p y e) before (next v) owners v (outside_owners p y e a w owners) (as_before v) l

    stays_live : (v u : List ℕ) → is_live (next v u) ≡ true → is_live (before u) ≡ true
    stays_live v u h =
        (tree_live (before u) (k (given u) (part (text_eq u) owners w))).1
        (part_before p y e a w owners v u long ((tree_live (next v u) (k (given u) (part (text_eq u) (owners ++ v ∷ []) (w ++ a ∷ [])))).0 h))

    -- the maps of the owners with one more owner are the moved map of the owners
    owners_move : flat_map moved_map (owned_map p y e w owners) ≡ flat_map (λ v. owned_map p y e (w ++ a ∷ []) (owners ++ v ∷ [])) a.values
    owners_move = chosen (list_all (λ v. is_live (before v)) owners) refl
      where
        chosen : (b : Bool) → list_all (λ v. is_live (before v)) owners ≡ b → flat_map moved_map (when b (one_map ∷ [])) ≡ flat_map (λ v. owned_map p y e (w ++ a ∷ []) (owners ++ v ∷ [])) a.values
        chosen true l =
            append-nil (moved_map one_map)
            ∙ flat_map-alike {f = taken (tree_of y [] []) one_map} {g = λ v. owned_map p y e (w ++ a ∷ []) (owners ++ v ∷ [])} a.values (λ v m. map_moved l v)
        chosen false l =
            sym (nothing_made (λ v. owned_map p y e (w ++ a ∷ []) (owners ++ v ∷ [])) a.values (λ v. no_map (initial p y e) before (next v) owners v (outside_owners p y e a w owners) (as_before v) (stays_live v) l))

  abbrev maps : Word → List Plain
  maps w = flat_map (owned_map p y e w) (ownings w)

  -- the maps of the longer word, by the owners of the word
  maps_end : (w : Word) → SameMembers (maps (w ++ a ∷ [])) (flat_map (λ owners. flat_map (λ v. owned_map p y e (w ++ a ∷ []) (owners ++ v ∷ [])) a.values) (ownings w))
  maps_end w =
      let more : List (List ℕ) → List Plain = owned_map p y e (w ++ a ∷ []) in
      SameMembers-trans
      (SameMembers-flat_map more more (ownings_end w a) (λ owners m. SameMembers-refl (more owners)))
      (SameMembers-eq
      (flat_map-flat_map (give_owner a) more (ownings w)
      ∙ flat_map-alike {f = λ owners. flat_map more (give_owner a owners)} {g = λ owners. flat_map (λ v. more (owners ++ v ∷ [])) a.values} (ownings w) (λ owners m. flat_map-map more (λ v. owners ++ v ∷ []) a.values)))

  maps_move : (w : Word) → SameMembers (flat_map moved_map (items_of (set_of (maps w)))) (maps (w ++ a ∷ []))
  maps_move w =
      SameMembers-trans (set_made moved_map (owned_map p y e w) (ownings w))
      (SameMembers-trans
      (SameMembers-eq (flat_map-alike {f = λ owners. flat_map moved_map (owned_map p y e w owners)} {g = λ owners. flat_map (λ v. owned_map p y e (w ++ a ∷ []) (owners ++ v ∷ [])) a.values} (ownings w) (λ owners m. owners_move w owners (ownings_long w owners m))))
      (SameMembers-sym (maps_end w)))

  pub all_moves : EachAtomNames p y → ((f : Environment) → Begins a y f) → ((f : Environment) → MayTells a y f) → Moves (all p y) e a
  all_moves n b m w =
      node_moves {P = IsPartial (all p y) e (w ++ a ∷ [])} (all p y) e a (is_empty (maps w)) (is_empty (maps (w ++ a ∷ [])))
      (all_tree (set_of (maps w))) (all_tree (set_of (maps (w ++ a ∷ [])))) (all_tree (set_of (flat_map moved_map (items_of (set_of (maps w))))))
      refl (all_may p y e a k b m n w) refl (all_told p y e n (λ v. k (bind p v e)) (k e) (w ++ a ∷ [])).partial
      (λ d q. ap all_tree (set_same (flat_map moved_map (items_of (set_of (maps w)))) (maps (w ++ a ∷ [])) (maps_move w)))
