-- Entries in memory as entries: the tree at a value, and what they hold after a tree is put among them.
use Rattle.std.proofs.Common.{◌≡◌, ◌⊎◌, inl, inr, ℕ, suc, ◌+◌, ◌<◌, ◌≤◌, Bool, true, false, not, cond, List, [], ◌∷◌, ◌++◌, length, take, drop, get_or, map, append-nil, Some, refl, sym, ap, ◌∙◌, subst, true≢false, arith, Ordering, Less, Equal, Greater, if◌then◌else◌}
use Rattle.std.specs.BTreeMap.{is_at, insert_entry}
use Rattle.std.specs.Cmp.{tied_itself}
use Rattle.std.specs.Cmp.Lexicographic.{texts_ties}
use Rattle.std.specs.List.{AllByRecursion}
use Rattle.std.specs.List.Sorted.{IsStrictlySortedBy}
use Rattle.std.specs.Map.{keys_of, lookup, remove_entry}
use Rattle.std.specs.Option.{unwrap_or}
use Rattle.std.specs.Ordering.{is_eq, match_ordering, ordering_then}
use Rattle.std.proofs.lemmas.List.{length-map, take_more, take-append-drop}
use Rattle.ix_words.specs.Each.{Each, Member, here}
use Rattle.ix_words.specs.Canon.{Ascending, below, by_order, put_once, canon, when}
use Rattle.ix_words.proofs.Each.{Each-head, Each-tail, Each-members}
use Rattle.ix_words.proofs.Canon.{by_order-has, canon-members, flat_map-append, flat_map-Member, when-Member}
use Rattle.ix_values.specs.Order.{text_eq, text_cmp}
use Rattle.ix_values.specs.lemmas.Order.{text_cmp-same, text_eq-decides}
use Rattle.ix_entries.specs.inside.Entries.{KeysAscend, AreProperEntries, item_at, with_entry}
use Rattle.ix_tree.specs.Plain.{Plain, entry, listed, more}
use Rattle.ix_tree.specs.PlainOf.{plain_entry, plain_entries}
use Rattle.ix_tree.specs.Order.{key, first_part, tree_cmp}
use Rattle.ix_tree.specs.Size.{size_of}
use Rattle.ix_tree.specs.lemmas.TreeOrder.{tree_order}
use Rattle.ix_can.specs.Nodes.{same_tree}
use Rattle.ix_can.specs.TreeOf.{entries_of}
use Rattle.ix_can.specs.May.{tree_at}
use Rattle.ix_words.proofs.Deciding.{itself, one_test}
use Rattle.ix_can.proofs.Lists.{when_not}
use Rattle.ix_can.proofs.Nodes.{same_is, entry_is}
use Rattle.ix_step.specs.inside.Makes.{put_all}
use Rattle.ix_step.specs.inside.EnterTrees.{entries_put, HoldTrees}
use Rattle.ix_step.proofs.Gathered.{put_all-nothing, put_all-append, put_all_grows, put_all_holds, size_all}

-- Keys

-- a key is found exactly where it is the value
pub key_at : (v u : List ℕ) → is_eq (text_cmp v u) ≡ text_eq u v
key_at v u =
    sym (texts_ties v u)
    ∙ one_test (text_eq v u) (text_eq u v) (
      λ e. (text_eq-decides u v).1 (sym ((text_eq-decides v u).0 e)),
      λ e. (text_eq-decides v u).1 (sym ((text_eq-decides u v).0 e)),
    )

keys_above : (v : List ℕ) (es : List (List ℕ × Plain)) → Each (λ y. text_cmp v (key y) ≡ Less) (map plain_entry es) → AllByRecursion (λ u. text_cmp v u ≡ Less) (keys_of es)
keys_above v [] h = tt
keys_above v (e ∷ es) h = (Each-head h, keys_above v es (Each-tail h))

-- entries that ascend by their values have keys that ascend strictly
pub keys_ascend : (es : List (List ℕ × Plain)) → Ascending (λ x y. text_cmp (key x) (key y)) (map plain_entry es) → KeysAscend text_cmp es
unfolding IsStrictlySortedBy
keys_ascend [] h = tt
keys_ascend (e ∷ es) (below g h) = (keys_above e.0 es g, keys_ascend es h)

-- the tree of the item at a value is the tree at that value
pub tree_at_item : (v : List ℕ) (common : Plain) (es : List (List ℕ × Plain)) → tree_at v common (map plain_entry es) ≡ (item_at text_cmp es common v)
tree_at_item v common [] = refl
tree_at_item v common (e ∷ es) =
    chosen (text_eq e.0 v) (tree_at_item v common es)
    ∙ ap (λ b. (unwrap_or (cond b (Some e.1) (lookup (is_at (text_cmp v)) es)) common)) (sym (key_at v e.0))
  where
    chosen : (b : Bool) → tree_at v common (map plain_entry es) ≡ (item_at text_cmp es common v) → (if b then e.1 else tree_at v common (map plain_entry es)) ≡ (unwrap_or (cond b (Some e.1) (lookup (is_at (text_cmp v)) es)) common)
    chosen true rest = refl
    chosen false rest = rest

-- One more entry

-- the entry is that of its value's tree
abbrev pub IsOf : (List ℕ → Plain) → Plain → Type 0
IsOf tree x = x ≡ entry (key x) (tree (key x))

-- where each value has one tree, an entry that is inserted is put in its place, once
insert_is_put : (tree : List ℕ → Plain) (es : List (List ℕ × Plain)) (v : List ℕ) (x : Plain) → Each (IsOf tree) (map plain_entry es) → x ≡ tree v → map plain_entry (insert_entry text_cmp es v x) ≡ put_once tree_cmp (entry v x) (map plain_entry es)
insert_is_put tree [] v x h s = refl
insert_is_put tree (e ∷ es) v x h s = placed (text_cmp v e.0) refl (insert_is_put tree es v x (Each-tail h) s)
  where
    placed : (o : Ordering) → text_cmp v e.0 ≡ o → map plain_entry (insert_entry text_cmp es v x) ≡ put_once tree_cmp (entry v x) (map plain_entry es) →
        map plain_entry (match_ordering o ((v, x) ∷ e ∷ es) ((e.0, x) ∷ es) (e ∷ insert_entry text_cmp es v x))
        ≡ by_order (ordering_then o (ordering_then (tree_cmp x e.1) Equal)) (entry v x ∷ map plain_entry (e ∷ es)) (map plain_entry (e ∷ es)) (plain_entry e ∷ put_once tree_cmp (entry v x) (map plain_entry es))
    placed Less c rest = refl
    placed Greater c rest = ap (λ l. plain_entry e ∷ l) rest
    placed Equal c rest =
        let same : x ≡ e.1 = s ∙ ap tree (text_cmp-same v e.0 c) ∙ sym (ap first_part (Each-head h)) in
        let tied : tree_cmp x e.1 ≡ Equal = subst (λ z. tree_cmp x z ≡ Equal) same (tied_itself tree_order.total x) in
        ap (λ z. entry e.0 z ∷ map plain_entry es) same
        ∙ sym (ap (λ o. by_order (ordering_then o Equal) (entry v x ∷ map plain_entry (e ∷ es)) (map plain_entry (e ∷ es)) (plain_entry e ∷ put_once tree_cmp (entry v x) (map plain_entry es))) tied)

-- where the value has no entry, none is removed
remove_none : (es : List (List ℕ × Plain)) (v : List ℕ) → Each (λ z. text_eq (key z) v ≡ false) (map plain_entry es) → remove_entry (is_at (text_cmp v)) es ≡ es
remove_none [] v h = refl
remove_none (e ∷ es) v h =
    ap (λ b. cond b es (e ∷ remove_entry (is_at (text_cmp v)) es)) (key_at v e.0 ∙ Each-head h)
    ∙ ap (λ l. e ∷ l) (remove_none es v (Each-tail h))

-- The entries of values

module _ (common : Plain) (tree : List ℕ → Plain) where
  each_put : {G : Plain → Type 0} (values : List (List ℕ)) → ((x : Plain) → Member x (entries_of common tree values) → G x) → Each G (entries_put common tree values)
  each_put {G} values h =
      subst (Each G) (sym (put_all-nothing (entries_of common tree values)))
      (Each-members (canon tree_cmp (entries_of common tree values)) (λ x m. h x ((canon-members tree_order (entries_of common tree values)).to x m)))

  -- each is the entry of its value's tree
  pub put_are : (values : List (List ℕ)) → Each (IsOf tree) (entries_put common tree values)
  put_are values = each_put {G = IsOf tree} values (λ x m. let e = (entry_is common tree values m).has.1 in e ∙ ap (λ u. entry u (tree u)) (sym (ap key e)))

  -- a value whose tree is the common one has no entry
  put_others : (values : List (List ℕ)) (v : List ℕ) → same_tree (tree v) common ≡ true → Each (λ z. text_eq (key z) v ≡ false) (entries_put common tree values)
  put_others values v s = each_put {G = λ z. text_eq (key z) v ≡ false} values (λ x m. other x m (text_eq (key x) v) refl)
    where
      other : (x : Plain) → Member x (entries_of common tree values) → (b : Bool) → text_eq (key x) v ≡ b → b ≡ false
      other x m false e = refl
      other x m true e =
          let k = entry_is common tree values m in
          let same : k.way ≡ v = sym (ap key k.has.1) ∙ (text_eq-decides (key x) v).0 e in
          absurd (true≢false (sym s ∙ ap (λ u. same_tree (tree u) common) (sym same) ∙ k.has.0))

  -- one more value
  pub put_next : (values : List (List ℕ)) (v : List ℕ) → entries_put common tree (values ++ v ∷ []) ≡ put_all (when (not (same_tree (tree v) common)) (entry v (tree v) ∷ [])) (entries_put common tree values)
  put_next values v =
      ap (λ l. put_all l []) (flat_map-append (λ u. when (not (same_tree (tree u) common)) (entry u (tree u) ∷ [])) values (v ∷ []))
      ∙ ap (λ l. put_all (entries_of common tree values ++ l) []) (append-nil (when (not (same_tree (tree v) common)) (entry v (tree v) ∷ [])))
      ∙ put_all-append (entries_of common tree values) (when (not (same_tree (tree v) common)) (entry v (tree v) ∷ [])) []

module _ (eq : Plain → Plain → Bool) (agree : (x y : Plain) → eq x y ≡ same_tree x y) where
  -- a value's tree that is put among the entries of values
  pub with_entry_put : (common : Plain) (tree : List ℕ → Plain) (values : List (List ℕ)) (es : List (List ℕ × Plain)) (v : List ℕ) (x : Plain) → map plain_entry es ≡ entries_put common tree values → x ≡ tree v → map plain_entry (with_entry text_cmp eq common es v x) ≡ put_all (when (not (same_tree (tree v) common)) (entry v (tree v) ∷ [])) (map plain_entry es)
  with_entry_put common tree values es v x held s = by_test (eq x common) (agree x common ∙ ap (λ t. same_tree t common) s)
    where
      by_test : (b : Bool) → b ≡ same_tree (tree v) common → map plain_entry (cond b (remove_entry (is_at (text_cmp v)) es) (insert_entry text_cmp es v x)) ≡ put_all (when (not (same_tree (tree v) common)) (entry v (tree v) ∷ [])) (map plain_entry es)
      by_test true e =
          ap (map plain_entry) (remove_none es v (subst (Each (λ z. text_eq (key z) v ≡ false)) (sym held) (put_others common tree values v (sym e))))
          ∙ ap (λ b. put_all (when (not b) (entry v (tree v) ∷ [])) (map plain_entry es)) e
      by_test false e =
          insert_is_put tree es v x (subst (Each (IsOf tree)) (sym held) (put_are common tree values)) s
          ∙ ap (λ t. put_once tree_cmp (entry v t) (map plain_entry es)) s
          ∙ ap (λ b. put_all (when (not b) (entry v (tree v) ∷ [])) (map plain_entry es)) e

-- How many they are, and how large

-- one tree more is put, or none
put_counts : (y : Plain) (xs : List Plain) → (put_once tree_cmp y xs ≡ xs) ⊎ ((length (put_once tree_cmp y xs) ≡ suc (length xs)) × (size_all (put_once tree_cmp y xs) ≡ size_all xs + size_of y))
put_counts y [] = inr (omega arith, omega arith)
put_counts y (x ∷ xs) =
    by_order-has (λ l. (l ≡ x ∷ xs) ⊎ ((length l ≡ suc (length (x ∷ xs))) × (size_all l ≡ size_all (x ∷ xs) + size_of y))) (tree_cmp y x) (y ∷ x ∷ xs) (x ∷ xs) (x ∷ put_once tree_cmp y xs)
    (λ e. inr (omega arith, omega arith))
    (λ e. inl refl)
    (λ e. elim (put_counts y xs) [
      | inl h ↦ inl (ap (λ l. x ∷ l) h)
      | inr h ↦ inr (omega (arith, h.0), omega (arith, h.1))
    ])

-- as many at most as are put
put_all_counts : (ys xs : List Plain) → length (put_all ys xs) ≤ length ys + length xs
put_all_counts [] xs = omega arith
put_all_counts (y ∷ ys) xs = elim (put_counts y xs) [
  | inl h ↦ omega (arith, put_all_counts ys (put_once tree_cmp y xs), ap length h)
  | inr h ↦ omega (arith, put_all_counts ys (put_once tree_cmp y xs), h.0)
]

-- a value has at most one entry
pub entries_few : (common : Plain) (tree : List ℕ → Plain) (values : List (List ℕ)) → length (entries_put common tree values) ≤ length values
entries_few common tree values = omega (arith, put_all_counts (entries_of common tree values) [], made values)
  where
    one : (b : Bool) (x : Plain) (xs : List Plain) → length (when b (x ∷ []) ++ xs) ≤ suc (length xs)
    one true x xs = omega arith
    one false x xs = omega arith

    made : (vs : List (List ℕ)) → length (entries_of common tree vs) ≤ length vs
    made [] = omega arith
    made (v ∷ vs) = omega (arith, one (not (same_tree (tree v) common)) (entry v (tree v)) (entries_of common tree vs), made vs)

-- what the entries are after one more value: they are more by the entry's Size where they are more
pub record Entered (common : Plain) (tree : List ℕ → Plain) (values : List (List ℕ)) (old : List (List ℕ × Plain)) (total : ℕ) (new : List (List ℕ × Plain)) (x : Plain) : Type 0 where
  pub items : map plain_entry new ≡ entries_put common tree values
  pub grown : length old < length new → total + 1 + size_of x ≡ size_of (plain_entries new)
  pub kept : length new ≤ length old → total ≡ size_of (plain_entries new)

count_when : (b : Bool) (y : Plain) (xs : List Plain) → (put_all (when b (y ∷ [])) xs ≡ xs) ⊎ ((length (put_all (when b (y ∷ [])) xs) ≡ suc (length xs)) × (size_all (put_all (when b (y ∷ [])) xs) ≡ size_all xs + size_of y))
count_when true y xs = put_counts y xs
count_when false y xs = inl refl

module _ (eq : Plain → Plain → Bool) (agree : (x y : Plain) → eq x y ≡ same_tree x y) where
  pub entered : (common : Plain) (tree : List ℕ → Plain) (values : List (List ℕ)) (old : List (List ℕ × Plain)) (total : ℕ) (v : List ℕ) (x : Plain) (new : List (List ℕ × Plain)) → HoldTrees common tree values old total → x ≡ tree v → new ≡ with_entry text_cmp eq common old v x → Entered common tree (values ++ v ∷ []) old total new x
  entered common tree values old total v x new held s e =
      let b : Bool = not (same_tree (tree v) common) in
      let put : map plain_entry new ≡ put_all (when (not (same_tree (tree v) common)) (entry v (tree v) ∷ [])) (map plain_entry old) = ap (map plain_entry) e ∙ with_entry_put eq agree common tree values old v x held.items s in
      let counts = count_when (not (same_tree (tree v) common)) (entry v (tree v)) (map plain_entry old) in
      record {
        items = put ∙ ap (put_all (when (not (same_tree (tree v) common)) (entry v (tree v) ∷ []))) held.items ∙ sym (put_next common tree values v);
        grown = λ lt. elim counts [
          | inl h ↦ let k : length (map plain_entry new) ≡ length (map plain_entry old) = ap length (put ∙ h) in absurd (omega (arith, k, length-map new plain_entry, length-map old plain_entry))
          | inr h ↦
              let k : size_all (map plain_entry new) ≡ size_all (map plain_entry old) + (1 + size_of (tree v)) = ap size_all put ∙ h.1 in
              omega (arith, k, held.counted, ap size_of s)
        ];
        kept = λ le. elim counts [
          | inl h ↦ held.counted ∙ ap size_all (sym (put ∙ h))
          | inr h ↦ let k : length (map plain_entry new) ≡ suc (length (map plain_entry old)) = ap length put ∙ h.0 in absurd (omega (arith, k, length-map new plain_entry, length-map old plain_entry))
        ];
      }

-- The limit

-- a value's tree is no larger than the entries of all values with the common tree
pub value_size : (common : Plain) (tree : List ℕ → Plain) (values : List (List ℕ)) (v : List ℕ) → Member v values → size_of (tree v) ≤ size_of (more common (listed (entries_put common tree values)))
value_size common tree values v m = by_test (same_tree (tree v) common) refl
  where
    by_test : (b : Bool) → same_tree (tree v) common ≡ b → size_of (tree v) ≤ size_of (more common (listed (entries_put common tree values)))
    by_test true e = let s : size_of (tree v) ≡ size_of common = ap size_of (same_is (tree v) common e) in omega arith
    by_test false e =
        let k : size_of (entry v (tree v)) ≤ size_all (put_all (entries_of common tree values) []) = put_all_holds (entry v (tree v)) (entries_of common tree values) [] (flat_map-Member (λ u. when (not (same_tree (tree u) common)) (entry u (tree u) ∷ [])) m (when-Member ((when_not (same_tree (tree v) common) itself).1 e) here)) in
        omega arith

-- the entries of some values are no larger than those of more
pub some_size : (common : Plain) (tree : List ℕ → Plain) (us vs : List (List ℕ)) → size_all (entries_put common tree us) ≤ size_all (entries_put common tree (us ++ vs))
some_size common tree us vs =
    subst (λ l. size_all (put_all (entries_of common tree us) []) ≤ size_all l)
    (sym (ap (λ l. put_all l []) (flat_map-append (λ u. when (not (same_tree (tree u) common)) (entry u (tree u) ∷ [])) us vs) ∙ put_all-append (entries_of common tree us) (entries_of common tree vs) []))
    (put_all_grows (entries_of common tree vs) (put_all (entries_of common tree us) []))

-- Nothing is put yet

pub nothing_proper : (eq : Plain → Plain → Bool) (common : Plain) (es : List (List ℕ × Plain)) → es ≡ [] → AreProperEntries text_cmp eq common es
unfolding IsStrictlySortedBy
nothing_proper eq common es e = subst (AreProperEntries text_cmp eq common) (sym e) (record { ascending = tt; differing = λ k d lt. absurd (omega arith) })

pub nothing_held : (common : Plain) (tree : List ℕ → Plain) (es : List (List ℕ × Plain)) → es ≡ [] → HoldTrees common tree [] es 0
nothing_held common tree es e = subst (λ l. HoldTrees common tree [] l 0) (sym e) (record { items = refl; counted = refl })

-- One value after the other

-- the entries of the values up to the next
pub after_put : (common : Plain) (tree : List ℕ → Plain) (vs : List (List ℕ)) (i : ℕ) (v : List ℕ) (new : List (List ℕ × Plain)) (sum : ℕ) → i < length vs → v ≡ get_or vs i v → HoldTrees common tree (take i vs ++ v ∷ []) new sum → HoldTrees common tree (take (i + 1) vs) new sum
after_put common tree vs i v new sum lt same h =
    subst (λ us. HoldTrees common tree us new sum)
    (ap (λ u. take i vs ++ u ∷ []) same ∙ sym (take_more vs i v lt)) h

-- those up to the next are no larger than all
pub upto_size : (common : Plain) (tree : List ℕ → Plain) (vs : List (List ℕ)) (i : ℕ) (v : List ℕ) → i < length vs → v ≡ get_or vs i v → size_all (entries_put common tree (take i vs ++ v ∷ [])) ≤ size_all (entries_put common tree vs)
upto_size common tree vs i v lt same =
    let us : take i vs ++ v ∷ [] ≡ take (i + 1) vs = ap (λ u. take i vs ++ u ∷ []) same ∙ sym (take_more vs i v lt) in
    let here : size_all (entries_put common tree (take i vs ++ v ∷ [])) ≡ size_all (entries_put common tree (take (i + 1) vs)) = ap (λ l. size_all (entries_put common tree l)) us in
    let all : size_all (entries_put common tree vs) ≡ size_all (entries_put common tree (take (i + 1) vs ++ drop (i + 1) vs)) = ap (λ l. size_all (entries_put common tree l)) (sym (take-append-drop (i + 1) vs)) in
    omega (arith, some_size common tree (take (i + 1) vs) (drop (i + 1) vs))
