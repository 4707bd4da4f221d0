-- Maps of values to trees: what they hold, the tree of a value in them, and the map in which one value has another tree;
-- and the values that own the actions of a word with one more action.
use Rattle.std.proofs.Common.{◌≡◌, ◌↔◌, ◌⊎◌, inl, inr, ℕ, Bool, true, false, not, List, [], ◌∷◌, ◌++◌, cond, length, map, flat_map, filter, append-nil, refl, sym, ap, ◌∙◌, subst, true≢false, if◌then◌else◌}
use Rattle.std.specs.List.{list_all}
use Rattle.ix_words.specs.Each.{Each, Member, here, EachPair, no_pair, pair}
use Rattle.ix_words.specs.Parts.{part}
use Rattle.ix_words.specs.Canon.{SameMembers, when}
use Rattle.ix_words.proofs.Each.{Each-head, Each-tail, Each-member, Each-members, Member-left, Member-right, Member-either}
use Rattle.ix_words.proofs.Canon.{Member-cases, Member-same, Member-when, when-Member, Member-map, map-Member, Member-flat_map, flat_map-Member}
use Rattle.ix_words.proofs.Laws.{parts_grow}
use Rattle.ix_words.proofs.Owners.{EachPair-long}
use Rattle.ix_values.specs.Order.{text_eq}
use Rattle.ix_values.specs.lemmas.Order.{text_eq-decides}
use Rattle.ix_values.specs.PlainAction.{PlainAction, Word}
use Rattle.ix_expr.proofs.Agreement.{member-or-not}
use Rattle.ix_tree.specs.Plain.{Plain, dead, map as map_of, entry}
use Rattle.ix_tree.specs.Order.{key, first_part}
use Rattle.ix_can.specs.Ways.{ownings}
use Rattle.ix_can.specs.Nodes.{is_dead, is_live, same_tree, items_of, set_of}
use Rattle.ix_can.specs.TreeOf.{entries_of, live_map}
use Rattle.ix_can.specs.May.{tree_at}
use Rattle.ix_can.specs.inside.Moved.{entry_with, map_with, or_initial}
use Rattle.ix_words.proofs.Deciding.{itself, one_test}
use Rattle.ix_can.proofs.Lists.{when_not, all_to, all_from, Member-filter, filter-Member}
use Rattle.ix_can.proofs.Ways.{ownings_to, ownings_from}
use Rattle.ix_can.proofs.Nodes.{same_is, same_from, entry_is, entry_among}
use Rattle.ix_can.proofs.MovesShared.{set_members, set_same}

pub same_or_other : (u v : List ℕ) → (u ≡ v) ⊎ (text_eq u v ≡ false)
same_or_other u v = either (text_eq u v) refl
  where
    either : (b : Bool) → text_eq u v ≡ b → (u ≡ v) ⊎ (text_eq u v ≡ false)
    either true e = inl ((text_eq-decides u v).0 e)
    either false e = inr e

not_itself : (v : List ℕ) → ¬ (text_eq v v ≡ false)
not_itself v e = true≢false (sym ((text_eq-decides v v).1 refl) ∙ e)

-- The tree of a value among entries

-- among entries with one tree for each value
tree_found : (tree : List ℕ → Plain) (common : Plain) (v : List ℕ) (xs : List Plain) → Each (λ x. x ≡ entry (key x) (tree (key x))) xs → Member (entry v (tree v)) xs → tree_at v common xs ≡ tree v
tree_found tree common v [] h m = elim m [ ]
tree_found tree common v (x ∷ xs) h m = chosen (text_eq (key x) v) refl (Member-cases m) (tree_found tree common v xs (Each-tail h))
  where
    chosen : (b : Bool) → text_eq (key x) v ≡ b → (entry v (tree v) ≡ x) ⊎ Member (entry v (tree v)) xs → (Member (entry v (tree v)) xs → tree_at v common xs ≡ tree v) → (if b then first_part x else tree_at v common xs) ≡ tree v
    chosen true e c later = ap first_part (Each-head h) ∙ ap tree ((text_eq-decides (key x) v).0 e)
    chosen false e (inl f) later = absurd (true≢false (sym ((text_eq-decides (key x) v).1 (ap key (sym f))) ∙ e))
    chosen false e (inr n) later = later n

tree_none : (common : Plain) (v : List ℕ) (xs : List Plain) → Each (λ x. text_eq (key x) v ≡ false) xs → tree_at v common xs ≡ common
tree_none common v [] h = refl
tree_none common v (x ∷ xs) h = ap (λ b. if b then first_part x else tree_at v common xs) (Each-head h) ∙ tree_none common v xs (Each-tail h)

module _ (initial : Plain) (tree : List ℕ → Plain) where
  -- the entry is that of its value, whose tree isn't the initial one
  abbrev IsKept : Plain → Type 0
  IsKept z = (z ≡ entry (key z) (tree (key z))) × (same_tree (tree (key z)) initial ≡ false)

  kept_is : (v : List ℕ) (z : Plain) → z ≡ entry v (tree v) → same_tree (tree v) initial ≡ false → IsKept z
  kept_is v z e d = (e ∙ ap (λ u. entry u (tree u)) (sym (ap key e)), ap (λ u. same_tree (tree u) initial) (ap key e) ∙ d)

  module _ (owners : List (List ℕ)) (elsewhere : (v : List ℕ) → ¬ Member v owners → tree v ≡ initial) where
    kept_owner : (v : List ℕ) → same_tree (tree v) initial ≡ false → Member v owners ⊎ (¬ Member v owners) → Member v owners
    kept_owner v d (inl m) = m
    kept_owner v d (inr n) = absurd (true≢false (sym (same_from (tree v) initial (elsewhere v n)) ∙ d))

    -- the entries are those of all values whose tree isn't the initial one
    entries_say : (z : Plain) → Member z (entries_of initial tree owners) ↔ IsKept z
    entries_say z = (
      λ m. let k = entry_is initial tree owners m in kept_is k.way z k.has.1 k.has.0,
      λ h. subst (λ x. Member x (entries_of initial tree owners)) (sym h.0) (entry_among initial tree owners (kept_owner (key z) h.1 (member-or-not (key z) owners)) h.1),
    )

    abbrev map_items : List Plain
    map_items = items_of (set_of (entries_of initial tree owners))

    each_kept : Each IsKept map_items
    each_kept = Each-members map_items (λ z m. (entries_say z).0 ((set_members (entries_of initial tree owners)).to z m))

    -- in the map a value has its tree, or none where that is the initial one
    pub tree_in_map : (v : List ℕ) → tree_at v dead map_items ≡ (if same_tree (tree v) initial then dead else tree v)
    tree_in_map v = chosen (same_tree (tree v) initial) refl
      where
        other : (x : Plain) → same_tree (tree v) initial ≡ true → IsKept x → (key x ≡ v) ⊎ (text_eq (key x) v ≡ false) → text_eq (key x) v ≡ false
        other x e k (inl s) = absurd (true≢false (sym e ∙ ap (λ u. same_tree (tree u) initial) (sym s) ∙ k.1))
        other x e k (inr d) = d

        chosen : (b : Bool) → same_tree (tree v) initial ≡ b → tree_at v dead map_items ≡ (if b then dead else tree v)
        chosen true e = tree_none dead v map_items (Each-members map_items (λ x m. other x e (Each-member each_kept m) (same_or_other (key x) v)))
        chosen false e =
            tree_found tree dead v map_items (Each-members map_items (λ x m. (Each-member each_kept m).0))
            ((set_members (entries_of initial tree owners)).from (entry v (tree v)) ((entries_say (entry v (tree v))).1 (refl, e)))

    -- where the value's tree is live, none is found exactly where it is the initial one
    pub dead_in_map : (v : List ℕ) → is_dead (tree v) ≡ false → is_dead (tree_at v dead map_items) ≡ same_tree (tree v) initial
    dead_in_map v l = ap is_dead (tree_in_map v) ∙ chosen (same_tree (tree v) initial)
      where
        chosen : (b : Bool) → is_dead (if b then dead else tree v) ≡ b
        chosen true = refl
        chosen false = l

    -- with the initial tree in place of none, the value has its tree
    pub found_in_map : (v : List ℕ) → is_dead (tree v) ≡ false → or_initial initial (tree_at v dead map_items) ≡ tree v
    found_in_map v l = ap (or_initial initial) (tree_in_map v) ∙ chosen (same_tree (tree v) initial) refl
      where
        chosen : (b : Bool) → same_tree (tree v) initial ≡ b → or_initial initial (if b then dead else tree v) ≡ tree v
        chosen true e = sym (same_is (tree v) initial e)
        chosen false e = ap (λ b. if b then initial else tree v) l

-- One value with another tree

module _ (initial : Plain) (tree next : List ℕ → Plain) (owners : List (List ℕ)) (v : List ℕ)
    (elsewhere : (u : List ℕ) → ¬ Member u owners → tree u ≡ initial)
    (as_before : (u : List ℕ) → text_eq u v ≡ false → next u ≡ tree u) where
  abbrev grown : List (List ℕ)
  grown = owners ++ v ∷ []

  abbrev before : List Plain
  before = items_of (set_of (entries_of initial tree owners))

  abbrev changed : List Plain
  changed = entry_with initial v (next v) ++ filter (λ other. not (text_eq (key other) v)) before

  still_elsewhere : (u : List ℕ) → ¬ Member u grown → next u ≡ initial
  still_elsewhere u n = by_value (same_or_other u v)
    where
      by_value : (u ≡ v) ⊎ (text_eq u v ≡ false) → next u ≡ initial
      by_value (inl e) = absurd (n (Member-right owners (Member-same [] e)))
      by_value (inr d) = as_before u d ∙ elsewhere u (λ m. n (Member-left m (v ∷ [])))

  -- an entry of another value is kept as it was
  other_kept : (z : Plain) → text_eq (key z) v ≡ false → IsKept initial tree z ↔ IsKept initial next z
  other_kept z d =
      let same : next (key z) ≡ tree (key z) = as_before (key z) d in (
        λ k. (k.0 ∙ ap (entry (key z)) (sym same), ap (λ t. same_tree t initial) same ∙ k.1),
        λ k. (k.0 ∙ ap (entry (key z)) same, ap (λ t. same_tree t initial) (sym same) ∙ k.1),
      )

  changed_to : (z : Plain) → Member z changed → IsKept initial next z
  changed_to z m = by_part (Member-either (entry_with initial v (next v)) (filter (λ other. not (text_eq (key other) v)) before) m)
    where
      by_part : Member z (entry_with initial v (next v)) ⊎ Member z (filter (λ other. not (text_eq (key other) v)) before) → IsKept initial next z
      by_part (inl l) =
          let k = Member-when (not (same_tree (next v) initial)) (entry v (next v) ∷ []) l in
          elim (Member-cases k.1) [ inl e ↦ kept_is initial next v z e ((when_not (same_tree (next v) initial) itself).0 k.0) | inr n ↦ elim n [ ] ]
      by_part (inr r) =
          let k = Member-filter (λ other. not (text_eq (key other) v)) before r in
          (other_kept z ((when_not (text_eq (key z) v) itself).0 k.1)).0 (Each-member (each_kept initial tree owners elsewhere) k.0)

  changed_from : (z : Plain) → IsKept initial next z → Member z changed
  changed_from z k = by_value (same_or_other (key z) v)
    where
      by_value : (key z ≡ v) ⊎ (text_eq (key z) v ≡ false) → Member z changed
      by_value (inl e) =
          Member-left
          (when-Member ((when_not (same_tree (next v) initial) itself).1 (ap (λ u. same_tree (next u) initial) (sym e) ∙ k.1))
          (Member-same [] (k.0 ∙ ap (λ u. entry u (next u)) e)))
          (filter (λ other. not (text_eq (key other) v)) before)
      by_value (inr d) =
          Member-right (entry_with initial v (next v))
          (filter-Member (λ other. not (text_eq (key other) v))
          ((set_members (entries_of initial tree owners)).from z ((entries_say initial tree owners elsewhere z).1 ((other_kept z d).1 k)))
          ((when_not (text_eq (key z) v) itself).1 d))

  changed_set : set_of changed ≡ set_of (entries_of initial next grown)
  changed_set = set_same changed (entries_of initial next grown) (record {
    to = λ z m. (entries_say initial next grown still_elsewhere z).1 (changed_to z m);
    from = λ z m. changed_from z ((entries_say initial next grown still_elsewhere z).0 m);
  })

  all_live : list_all (λ u. is_live (tree u)) owners ≡ true → is_live (next v) ≡ list_all (λ u. is_live (next u)) grown
  all_live l = one_test (is_live (next v)) (list_all (λ u. is_live (next u)) grown) (
    λ h. all_from (λ u. is_live (next u)) (Each-members grown (λ u m. one u h (same_or_other u v) (Member-either owners (v ∷ []) m))),
    λ h. Each-member (all_to (λ u. is_live (next u)) grown h) (Member-right owners here),
  )
    where
      one : (u : List ℕ) → is_live (next v) ≡ true → (u ≡ v) ⊎ (text_eq u v ≡ false) → Member u owners ⊎ Member u (v ∷ []) → is_live (next u) ≡ true
      one u h (inl e) m = ap (λ x. is_live (next x)) e ∙ h
      one u h (inr d) (inl m) = ap is_live (as_before u d) ∙ Each-member (all_to (λ x. is_live (tree x)) owners l) m
      one u h (inr d) (inr m) = elim (Member-cases m) [ inl e ↦ ap (λ x. is_live (next x)) e ∙ h | inr n ↦ elim n [ ] ]

  -- the map with the value's next tree is the map of the next trees
  pub map_moves : list_all (λ u. is_live (tree u)) owners ≡ true → map_with initial v (next v) before ≡ live_map initial next grown
  map_moves l = (λ i. when (all_live l i) (map_of (changed_set i) ∷ []))

  -- where some tree was dead, and trees that were dead stay so, there is no map of the next trees
  pub no_map : ((u : List ℕ) → is_live (next u) ≡ true → is_live (tree u) ≡ true) → list_all (λ u. is_live (tree u)) owners ≡ false → live_map initial next grown ≡ []
  no_map closed l = ap (λ b. when b (map_of (set_of (entries_of initial next grown)) ∷ [])) (some_dead (list_all (λ u. is_live (next u)) grown) refl)
    where
      some_dead : (b : Bool) → list_all (λ u. is_live (next u)) grown ≡ b → b ≡ false
      some_dead true e = absurd (true≢false (sym (all_from (λ u. is_live (tree u)) (Each-members owners (λ u m. closed u (Each-member (all_to (λ x. is_live (next x)) grown e) (Member-left m (v ∷ [])))))) ∙ l))
      some_dead false e = refl

-- Owners of a word with one more action

-- owners of a list with one more item: those of the list, and that of the item
record LastPair {K A : Type 0} (G : K → A → Type 0) (owners : List K) (w : List A) (a : A) : Type 0 where
  others : List K
  owner : K
  each_has : EachPair G others w
  last_has : G owner a
  whole : owners ≡ others ++ owner ∷ []

module _ {K A : Type 0} {G : K → A → Type 0} where
  pairs_more : {owners : List K} {w : List A} {k : K} {a : A} → EachPair G owners w → G k a → EachPair G (owners ++ k ∷ []) (w ++ a ∷ [])
  pairs_more no_pair g = pair g no_pair
  pairs_more (pair h t) g = pair h (pairs_more t g)

  no_owners : {owners : List K} → EachPair G owners [] → owners ≡ []
  no_owners no_pair = refl

  pairs_end : (owners : List K) (w : List A) (a : A) → EachPair G owners (w ++ a ∷ []) → LastPair G owners w a
  pairs_end owners [] a (pair {owner = k} g h) = record { others = []; owner = k; each_has = no_pair; last_has = g; whole = ap (λ x. k ∷ x) (no_owners h) }
  pairs_end owners (b ∷ w) a (pair {owner = k} {owners = ks} g h) =
      let r = pairs_end ks w a h in
      record { others = k ∷ r.others; owner = r.owner; each_has = pair g r.each_has; last_has = r.last_has; whole = ap (λ x. k ∷ x) r.whole }

-- the owners with each of the action's values behind them
abbrev pub give_owner : PlainAction → List (List ℕ) → List (List (List ℕ))
give_owner a owners = map (λ v. owners ++ v ∷ []) a.values

pub ownings_end : (w : Word) (a : PlainAction) → SameMembers (ownings (w ++ a ∷ [])) (flat_map (give_owner a) (ownings w))
ownings_end w a = record {
  to = λ owners m.
      let r = pairs_end owners w a (ownings_to (w ++ a ∷ []) owners m) in
      flat_map-Member (give_owner a) (ownings_from r.each_has)
      (subst (λ x. Member x (give_owner a r.others)) (sym r.whole) (map-Member (λ v. r.others ++ v ∷ []) r.last_has));
  from = λ owners m.
      let k = Member-flat_map (give_owner a) (ownings w) m in
      let j = Member-map (λ v. k.0 ++ v ∷ []) a.values k.2 in
      subst (λ x. Member x (ownings (w ++ a ∷ []))) (sym j.2) (ownings_from (pairs_more (ownings_to w k.0 k.1) j.1));
}

pub ownings_long : (w : Word) (owners : List (List ℕ)) → Member owners (ownings w) → length owners ≡ length w
ownings_long w owners m = EachPair-long (ownings_to w owners m)

module _ (owners : List (List ℕ)) (w : Word) (a : PlainAction) (v : List ℕ) (long : length owners ≡ length w) where
  -- the owner's part has the action behind it
  pub own_part : part (text_eq v) (owners ++ v ∷ []) (w ++ a ∷ []) ≡ part (text_eq v) owners w ++ a ∷ []
  own_part = parts_grow (text_eq v) owners w v a long ∙ ap (λ b. part (text_eq v) owners w ++ cond b (a ∷ []) []) ((text_eq-decides v v).1 refl)

  -- all other parts stay
  pub other_part : (u : List ℕ) → text_eq u v ≡ false → part (text_eq u) (owners ++ v ∷ []) (w ++ a ∷ []) ≡ part (text_eq u) owners w
  other_part u d =
      parts_grow (text_eq u) owners w v a long
      ∙ ap (λ b. part (text_eq u) owners w ++ cond b (a ∷ []) []) d
      ∙ append-nil (part (text_eq u) owners w)
