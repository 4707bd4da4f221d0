-- Entries by value: the tree at a value, tests of the trees at all values, and entries whose trees are moved.
use Rattle.std.proofs.Common.{◌≡◌, ◌↔◌, ◌⊎◌, inl, inr, ℕ, Bool, true, false, not, ◌&&◌, ◌||◌, List, [], ◌∷◌, ◌++◌, flat_map, refl, sym, ap, ◌∙◌, subst, true≢false, if◌then◌else◌}
use Rattle.std.specs.List.{list_any, list_all}
use Rattle.ix_words.specs.Each.{Each, Member}
use Rattle.ix_words.specs.Canon.{SameMembers, canon}
use Rattle.ix_words.proofs.Each.{Each-head, Each-tail, Each-member, Each-members, Member-left, Member-right, Member-either}
use Rattle.ix_words.proofs.Canon.{Member-cases, Member-when, Member-flat_map, flat_map-Member, canon-members, canon-same}
use Rattle.ix_values.specs.Order.{text_eq}
use Rattle.ix_values.specs.lemmas.Order.{text_eq-decides}
use Rattle.ix_expr.proofs.Agreement.{member-or-not}
use Rattle.ix_tree.specs.Plain.{Plain, entry}
use Rattle.ix_tree.specs.Order.{key, tree_cmp, first_part}
use Rattle.ix_tree.specs.lemmas.TreeOrder.{tree_order}
use Rattle.ix_can.specs.Nodes.{same_tree, listed, items_of, set_of}
use Rattle.ix_can.specs.TreeOf.{entries_of}
use Rattle.ix_can.specs.May.{tree_at}
use Rattle.ix_can.specs.inside.Moved.{entry_with}
use Rattle.ix_words.proofs.Deciding.{itself, iff_trans, when_either, when_both, any_says}
use Rattle.ix_can.proofs.Lists.{when_not, all_to, all_from, SomeWay}
use Rattle.ix_can.proofs.Nodes.{items_listed, same_from, differs_or_not, entry_is, entry_among}

-- The tree at a value

-- the items of a set are those of the list
pub set_items : (xs : List Plain) → SameMembers (items_of (set_of xs)) xs
set_items xs = subst (λ ys. SameMembers ys xs) (sym (items_listed (canon tree_cmp xs))) (canon-members tree_order xs)

-- lists with the same members are one set
pub same_set : (xs ys : List Plain) → SameMembers xs ys → set_of xs ≡ set_of ys
same_set xs ys s = ap listed (canon-same tree_order xs ys s)

-- the item is the entry of its value
abbrev pub IsEntryOf : (List ℕ → Plain) → Plain → Type 0
IsEntryOf tree x = x ≡ entry (key x) (tree (key x))

-- among entries with one tree for each value, the value has its tree where it has an entry, and else the common one
pub tree_at_is : (tree : List ℕ → Plain) (common : Plain) (v : List ℕ) (xs : List Plain) → Each (IsEntryOf tree) xs → (tree v ≡ common) ⊎ Member (entry v (tree v)) xs → tree_at v common xs ≡ tree v
tree_at_is tree common v [] h (inl e) = sym e
tree_at_is tree common v [] h (inr m) = elim m [ ]
tree_at_is tree common v (x ∷ xs) h c = chosen (text_eq (key x) v) refl (tree_at_is tree common v xs (Each-tail h))
  where
    later : text_eq (key x) v ≡ false → (tree v ≡ common) ⊎ Member (entry v (tree v)) xs
    later d = elim c [
      | inl e ↦ inl e
      | inr m ↦ elim (Member-cases m) [
        | inl same ↦ absurd (true≢false (sym ((text_eq-decides (key x) v).1 (ap key (sym same))) ∙ d))
        | inr n ↦ inr n
      ]
    ]

    chosen : (b : Bool) → text_eq (key x) v ≡ b → ((tree v ≡ common) ⊎ Member (entry v (tree v)) xs → tree_at v common xs ≡ tree v) → (if b then first_part x else tree_at v common xs) ≡ tree v
    chosen true e rest = ap first_part (Each-head h) ∙ ap tree ((text_eq-decides (key x) v).0 e)
    chosen false e rest = rest (later e)

module _ (common : Plain) (tree : List ℕ → Plain) (values : List (List ℕ)) where
  -- the entries of the values, each once
  abbrev pub kept : List Plain
  kept = items_of (set_of (entries_of common tree values))

  -- each is of a value whose tree differs from the common tree
  pub kept_is : {x : Plain} → Member x kept → SomeWay (λ v. (same_tree (tree v) common ≡ false) × (x ≡ entry v (tree v))) values
  kept_is {x} m = entry_is common tree values ((set_items (entries_of common tree values)).to x m)

  pub kept_among : {v : List ℕ} → Member v values → same_tree (tree v) common ≡ false → Member (entry v (tree v)) kept
  kept_among {v} m d = (set_items (entries_of common tree values)).from (entry v (tree v)) (entry_among common tree values m d)

  -- a value among them has its own tree, and so has one whose tree is the common one
  pub tree_at_value : (v : List ℕ) → (tree v ≡ common) ⊎ Member v values → tree_at v common kept ≡ tree v
  tree_at_value v c = tree_at_is tree common v kept are (elim c [
    | inl e ↦ inl e
    | inr m ↦ elim (differs_or_not common tree v) [ inl e ↦ inl e | inr d ↦ inr (kept_among m d) ]
  ])
    where
      are : Each (IsEntryOf tree) (items_of (set_of (entries_of common tree values)))
      are = Each-members kept (λ x m. let e = (kept_is m).has.1 in e ∙ ap (λ u. entry u (tree u)) (sym (ap key e)))

  module _ (outside : (v : List ℕ) → ¬ Member v values → tree v ≡ common) (others : List (List ℕ)) where
    -- where values outside have the common tree, each value has its own
    tree_at_any : (v : List ℕ) → tree_at v common kept ≡ tree v
    tree_at_any v = tree_at_value v (elim (member-or-not v values) [ inl m ↦ inr m | inr n ↦ inl (outside v n) ])

    -- how each value of the two lists is met: as one of the others, under the common tree, or by its entry
    covered : (v : List ℕ) → Member v (values ++ others) → Member v others ⊎ (((¬ Member v others) × (tree v ≡ common)) ⊎ Member (entry v (tree v)) kept)
    covered v m = elim (member-or-not v others) [
      | inl o ↦ inl o
      | inr n ↦ elim (Member-either values others m) [
        | inl i ↦ elim (differs_or_not common tree v) [ inl e ↦ inr (inl (n, e)) | inr d ↦ inr (inr (kept_among i d)) ]
        | inr o ↦ inl o
      ]
    ]

    module _ (test : List ℕ → Plain → Bool) (common_passes : Bool) (unmoved : (v : List ℕ) → ¬ Member v others → test v common ≡ common_passes) where
      -- the test of an entry, and of a value by its tree
      abbrev entry_test : Plain → Bool
      entry_test x = test (key x) (first_part x)

      abbrev value_test : List ℕ → Bool
      value_test v = test v (tree_at v common kept)

      entry_passes : {x : Plain} {v : List ℕ} → x ≡ entry v (tree v) → test (key x) (first_part x) ≡ test v (tree v)
      entry_passes e = ap entry_test e

      value_passes : (v : List ℕ) → test v (tree_at v common kept) ≡ test v (tree v)
      value_passes v = ap (test v) (tree_at_any v)

      -- some tree passes exactly where the common one does, or some value's
      pub values_any : (common_passes || (list_any (λ x. test (key x) (first_part x)) kept || list_any (λ v. test v (tree_at v common kept)) others) ≡ true) ↔ ((common_passes ≡ true) ⊎ SomeWay (λ v. test v (tree v) ≡ true) (values ++ others))
      values_any = iff_trans
          (when_either common_passes (list_any entry_test kept || list_any value_test others) itself
          (when_either (list_any entry_test kept) (list_any value_test others) (any_says entry_test kept) (any_says value_test others))) (
            λ h. elim h [
              | inl c ↦ inl c
              | inr g ↦ elim g [
                | inl s ↦ let k = kept_is s.among in inr (record { way = k.way; among = Member-left k.among others; has = sym (entry_passes k.has.1) ∙ s.passes })
                | inr s ↦ inr (record { way = s.which; among = Member-right values s.among; has = sym (value_passes s.which) ∙ s.passes })
              ]
            ],
            λ h. elim h [
              | inl c ↦ inl c
              | inr k ↦ elim (covered k.way k.among) [
                | inl o ↦ inr (inr (record { which = k.way; among = o; passes = value_passes k.way ∙ k.has }))
                | inr g ↦ elim g [
                  | inl n ↦ inl (sym (unmoved k.way n.0) ∙ ap (test k.way) (sym n.1) ∙ k.has)
                  | inr i ↦ inr (inl (record { which = entry k.way (tree k.way); among = i; passes = k.has }))
                ]
              ]
            ],
          )

      -- each tree passes exactly where the common one does, and each value's
      pub values_all : (common_passes && (list_all (λ x. test (key x) (first_part x)) kept && list_all (λ v. test v (tree_at v common kept)) others) ≡ true) ↔ ((common_passes ≡ true) × Each (λ v. test v (tree v) ≡ true) (values ++ others))
      values_all = iff_trans
          (when_both common_passes (list_all entry_test kept && list_all value_test others) itself
          (when_both (list_all entry_test kept) (list_all value_test others) itself itself)) (
            λ h. (h.0, Each-members (values ++ others) (λ v m. one h.0 h.1.0 h.1.1 v (covered v m))),
            λ h. (
              h.0,
              (
                all_from entry_test (Each-members kept (λ x m. let k = kept_is m in entry_passes k.has.1 ∙ Each-member h.1 (Member-left k.among others))),
                all_from value_test (Each-members others (λ v m. value_passes v ∙ Each-member h.1 (Member-right values m))),
              ),
            ),
          )
        where
          one : common_passes ≡ true → list_all (λ x. test (key x) (first_part x)) (items_of (set_of (entries_of common tree values))) ≡ true → list_all (λ v. test v (tree_at v common (items_of (set_of (entries_of common tree values))))) others ≡ true → (v : List ℕ) →
              Member v others ⊎ (((¬ Member v others) × (tree v ≡ common)) ⊎ Member (entry v (tree v)) (items_of (set_of (entries_of common tree values)))) → test v (tree v) ≡ true
          one c f g v (inl o) = sym (value_passes v) ∙ Each-member (all_to value_test others g) o
          one c f g v (inr (inl n)) = ap (test v) n.1 ∙ unmoved v n.0 ∙ c
          one c f g v (inr (inr i)) = Each-member (all_to entry_test kept f) i

    module _ (next : Plain) (after : List ℕ → Plain) (move : List ℕ → Plain → Plain) (moves : (v : List ℕ) → move v (tree v) ≡ after v) (unmoved : (v : List ℕ) → ¬ Member v others → move v common ≡ next) where
      abbrev entry_made : Plain → List Plain
      entry_made x = entry_with next (key x) (move (key x) (first_part x))

      abbrev value_made : List ℕ → List Plain
      value_made v = entry_with next v (move v (tree_at v common kept))

      abbrev made : List ℕ → List Plain
      made v = entry_with next v (after v)

      entry_moves : {x : Plain} (v : List ℕ) → x ≡ entry v (tree v) → entry_made x ≡ made v
      entry_moves v e = ap entry_made e ∙ ap (entry_with next v) (moves v)

      value_moves : (v : List ℕ) → value_made v ≡ made v
      value_moves v = ap (λ t. entry_with next v (move v t)) (tree_at_any v) ∙ ap (entry_with next v) (moves v)

      moved_to : (m : Plain) → Member m (flat_map entry_made kept ++ flat_map value_made others) → Member m (flat_map made (values ++ others))
      moved_to m i = elim (Member-either (flat_map entry_made kept) (flat_map value_made others) i) [
        | inl l ↦
            let j = Member-flat_map entry_made kept l in
            let k = kept_is j.1 in
            flat_map-Member made (Member-left k.among others) (subst (Member m) (entry_moves k.way k.has.1) j.2)
        | inr r ↦
            let j = Member-flat_map value_made others r in
            flat_map-Member made (Member-right values j.1) (subst (Member m) (value_moves j.0) j.2)
      ]

      moved_from : (m : Plain) → Member m (flat_map made (values ++ others)) → Member m (flat_map entry_made kept ++ flat_map value_made others)
      moved_from m i =
          let j = Member-flat_map made (values ++ others) i in
          elim (covered j.0 j.1) [
            | inl o ↦ Member-right (flat_map entry_made kept) (flat_map-Member value_made o (subst (Member m) (sym (value_moves j.0)) j.2))
            | inr g ↦ elim g [
              | inl n ↦
                  let same : after j.0 ≡ next = sym (moves j.0) ∙ ap (move j.0) n.1 ∙ unmoved j.0 n.0 in
                  let differs : same_tree (after j.0) next ≡ false = (when_not (same_tree (after j.0) next) itself).0 (Member-when (not (same_tree (after j.0) next)) (entry j.0 (after j.0) ∷ []) j.2).0 in
                  absurd (true≢false (sym (same_from (after j.0) next same) ∙ differs))
              | inr k ↦ Member-left (flat_map-Member entry_made k (subst (Member m) (sym (entry_moves j.0 refl)) j.2)) (flat_map value_made others)
            ]
          ]

      -- the entries that are moved, with those of the other values, are the entries of all values
      pub entries_move : set_of (flat_map (λ x. entry_with next (key x) (move (key x) (first_part x))) kept ++ flat_map (λ v. entry_with next v (move v (tree_at v common kept))) others) ≡ set_of (entries_of next after (values ++ others))
      entries_move = same_set (flat_map entry_made kept ++ flat_map value_made others) (flat_map made (values ++ others)) (record { to = moved_to; from = moved_from })
