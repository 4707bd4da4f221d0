-- Entries of which only those of an action's own values change: they are told by the tree that they give each value.
use Rattle.std.proofs.Common.{◌≡◌, ◌⊎◌, inl, inr, ℕ, suc, ◌+◌, ◌≤◌, ◌<◌, length, Bool, true, false, not, List, [], ◌∷◌, map, get_or, drop, Some, None, refl, sym, ap, ◌∙◌, subst, true≢false, arith, if◌then◌else◌}
use Rattle.std.specs.List.{All}
use Rattle.std.specs.Map.{keys_of, values_of}
use Rattle.std.specs.Ordering.{is_eq, ordering_then}
use Rattle.std.specs.declared.cmp.Ordering.TheVariants.{Less, Equal}
use Rattle.std.proofs.lemmas.List.{drop_more}
use Rattle.ix_words.specs.Canon.{Ascending, ascending_end, below, when}
use Rattle.ix_words.specs.Each.{Each, no_item, item, Member, here, there}
use Rattle.ix_words.proofs.Each.{Each-head, Each-tail, Each-member, Member-left, Member-right}
use Rattle.ix_words.proofs.Canon.{Member-cases, when-Member, flat_map-Member, canon-itself, canon-same}
use Rattle.ix_values.specs.Order.{text_eq, text_cmp}
use Rattle.ix_values.specs.lemmas.Order.{text_eq-decides}
use Rattle.ix_values.specs.PlainAction.{PlainAction}
use Rattle.ix_entries.specs.inside.Entries.{AreProperEntries, item_at, with_entry}
use Rattle.ix_expr.specs.Form.{Form}
use Rattle.ix_expr.specs.Environment.{Environment, bind}
use Rattle.ix_expr.proofs.Agreement.{member-or-not}
use Rattle.ix_tree.specs.Plain.{Plain, entry, listed}
use Rattle.ix_tree.specs.PlainOf.{plain_entry, plain_entries}
use Rattle.ix_tree.specs.Order.{key, first_part, tree_cmp}
use Rattle.ix_tree.specs.Size.{size_of}
use Rattle.ix_tree.specs.lemmas.TreeOrder.{tree_order}
use Rattle.ix_can.specs.Nodes.{same_tree}
use Rattle.ix_expr.specs.Tests.{in_alphabet}
use Rattle.ix_can.specs.TreeOf.{entries_of}
use Rattle.ix_can.specs.May.{tree_at}
use Rattle.ix_can.specs.inside.Moved.{moved, moved_inside}
use Rattle.ix_can.proofs.Keys.{entries_ascend, tree_at_own}
use Rattle.ix_words.proofs.Deciding.{itself}
use Rattle.ix_can.proofs.Lists.{when_not}
use Rattle.ix_can.proofs.Nodes.{same_is, same_from, entry_is}
use Rattle.ix_can.proofs.UnseenValues.{unused_outside}
use Rattle.ix_step.specs.declared.bodies.Reach.TheVariants.{OwnAlphabet}
use Rattle.ix_step.specs.inside.EnterTrees.{entries_put}
use Rattle.ix_step.specs.inside.ValueTrees.{ReadyInside, tree_after, common_after, entries_after, touched}
use Rattle.ix_step.proofs.EntriesPut.{key_at, tree_at_item}
use Rattle.ix_step.proofs.Gathered.{put_all-nothing}
use Rattle.ix_step.proofs.MapEntries.{with_entry_map}
use Rattle.ix_step.proofs.Mapping.{with_tree_size}
use Rattle.ix_step.proofs.Quantifying.{entries_touched}

-- What entries give a value

-- the tree of a value is the common one, or the value has an entry with it
pub found : (common : Plain) (v : List ℕ) (es : List (List ℕ × Plain)) → (tree_at v common (map plain_entry es) ≡ common) ⊎ Member (entry v (tree_at v common (map plain_entry es))) (map plain_entry es)
found common v [] = inl refl
found common v (e ∷ es) = one (text_eq e.0 v) refl (found common v es)
  where
    one : (b : Bool) → text_eq e.0 v ≡ b → (tree_at v common (map plain_entry es) ≡ common) ⊎ Member (entry v (tree_at v common (map plain_entry es))) (map plain_entry es)
        → ((if b then e.1 else tree_at v common (map plain_entry es)) ≡ common) ⊎ Member (entry v (if b then e.1 else tree_at v common (map plain_entry es))) (map plain_entry (e ∷ es))
    one true k rest = inr (subst (λ u. Member (entry u e.1) (map plain_entry (e ∷ es))) ((text_eq-decides e.0 v).0 k) here)
    one false k rest = elim rest [ inl h ↦ inl h | inr m ↦ inr (there m) ]

-- entries in order of their values are in order
in_order : (es : List (List ℕ × Plain)) → Ascending (λ x z. text_cmp (key x) (key z)) (map plain_entry es) → Ascending tree_cmp (map plain_entry es)
in_order [] h = ascending_end
in_order (e ∷ es) (below g h) = below (later es g) (in_order es h)
  where
    later : (fs : List (List ℕ × Plain)) → Each (λ z. text_cmp e.0 (key z) ≡ Less) (map plain_entry fs) → Each (λ z. tree_cmp (plain_entry e) z ≡ Less) (map plain_entry fs)
    later [] h = no_item
    later (f ∷ fs) h = item (ap (λ o. ordering_then o (ordering_then (tree_cmp e.1 f.1) Equal)) (Each-head h)) (later fs (Each-tail h))

shaped : (es : List (List ℕ × Plain)) → Each (λ x. x ≡ entry (key x) (first_part x)) (map plain_entry es)
shaped [] = no_item
shaped (e ∷ es) = item refl (shaped es)

pub key_among : (v : List ℕ) (t : Plain) (es : List (List ℕ × Plain)) → Member (entry v t) (map plain_entry es) → Member v (keys_of es)
key_among v t [] m = elim m [ ]
key_among v t (e ∷ es) m = elim (Member-cases m) [
  | inl same ↦ subst (λ u. Member u (keys_of (e ∷ es))) (sym (ap key same)) here
  | inr n ↦ there (key_among v t es n)
]

module _ (common : Plain) (tree : List ℕ → Plain) (values : List (List ℕ)) (es : List (List ℕ × Plain)) where
  -- entries that give each value its tree are those of any values that take in each whose tree differs
  pub same_entries : Ascending (λ x z. text_cmp (key x) (key z)) (map plain_entry es)
      → Each (λ x. same_tree (first_part x) common ≡ false) (map plain_entry es)
      → ((v : List ℕ) → tree_at v common (map plain_entry es) ≡ tree v)
      → ((v : List ℕ) → same_tree (tree v) common ≡ false → Member v values)
      → map plain_entry es ≡ entries_put common tree values
  same_entries ascending differing trees all =
      sym (canon-itself tree_order (map plain_entry es) (in_order es ascending))
      ∙ canon-same tree_order (map plain_entry es) (entries_of common tree values) (record { to = to; from = from })
      ∙ sym (put_all-nothing (entries_of common tree values))
    where
      to : (x : Plain) → Member x (map plain_entry es) → Member x (entries_of common tree values)
      to x m =
          let given : tree (key x) ≡ first_part x = sym (trees (key x)) ∙ Each-member (tree_at_own common (map plain_entry es) ascending) m in
          let differs : same_tree (tree (key x)) common ≡ false = ap (λ t. same_tree t common) given ∙ Each-member differing m in
          subst (λ z. Member z (entries_of common tree values)) (ap (entry (key x)) given ∙ sym (Each-member (shaped es) m))
          (flat_map-Member (λ u. when (not (same_tree (tree u) common)) (entry u (tree u) ∷ [])) (all (key x) differs) (when-Member ((when_not (same_tree (tree (key x)) common) itself).1 differs) here))

      from : (x : Plain) → Member x (entries_of common tree values) → Member x (map plain_entry es)
      from x m =
          let k = entry_is common tree values m in
          elim (found common k.way es) [
            | inl h ↦ absurd (true≢false (sym (same_from (tree k.way) common (sym (trees k.way) ∙ h)) ∙ k.has.0))
            | inr n ↦ subst (λ z. Member z (map plain_entry es)) (ap (entry k.way) (trees k.way) ∙ sym k.has.1) n
          ]

-- What becomes of each value where outside isn't in the alphabet

module _ (p : List ℕ) (y : Form) (e : Environment) (a : PlainAction) (common : Plain) (es : List (List ℕ × Plain)) where
  -- the tree of a value after the action
  abbrev pub own_after : List ℕ → Plain
  own_after v = tree_after OwnAlphabet p y e a common (map plain_entry es) v

  -- a value that isn't one of the action's keeps its tree
  pub others_keep : in_alphabet y (bind p None e) a ≡ false → (v : List ℕ) → ¬ Member v a.values → own_after v ≡ tree_at v common (map plain_entry es)
  others_keep outside v n =
      let t : Plain = tree_at v common (map plain_entry es) in
      ap (λ (b : Bool). moved_inside b (moved y (bind p (Some v) e) t a) t) (unused_outside y p e a common (map plain_entry es) v n outside)

  among : in_alphabet y (bind p None e) a ≡ false → (v : List ℕ) → same_tree (own_after v) common ≡ false → Member v (touched es a)
  among outside v differs = elim (member-or-not v a.values) [
    | inl m ↦ Member-right (keys_of es) m
    | inr n ↦ elim (found common v es) [
      | inl h ↦ absurd (true≢false (sym (same_from (own_after v) common (others_keep outside v n ∙ h)) ∙ differs))
      | inr m ↦ Member-left (key_among v (tree_at v common (map plain_entry es)) es m) a.values
    ]
  ]

  -- so does outside
  pub common_stays : in_alphabet y (bind p None e) a ≡ false → common_after OwnAlphabet p y e a common ≡ common
  common_stays outside = ap (λ (b : Bool). moved_inside b (moved y (bind p None e) common a) common) outside

  -- entries that give each value its tree after the action are those after the action
  pub own_entries : (fs : List (List ℕ × Plain)) → ReadyInside p y e common (map plain_entry es) → in_alphabet y (bind p None e) a ≡ false
      → Ascending (λ x z. text_cmp (key x) (key z)) (map plain_entry fs)
      → Each (λ x. same_tree (first_part x) common ≡ false) (map plain_entry fs)
      → ((v : List ℕ) → tree_at v common (map plain_entry fs) ≡ own_after v)
      → entries_after OwnAlphabet p y e a common (plain_entries es) ≡ plain_entries fs
  own_entries fs ready outside ascending differing trees =
      entries_touched OwnAlphabet p y e a common es ready
      ∙ ap (λ x. listed (entries_put x own_after (touched es a))) (common_stays outside)
      ∙ ap listed (sym (same_entries common own_after (touched es a) fs ascending differing trees (among outside)))

-- One value after the other

-- each value has its new tree, but for those that are still to come
pub record GivesAll (common : Plain) (tree : List ℕ → Plain) (coming : List (List ℕ)) (entries : List (List ℕ × Plain)) : Type 0 where
  pub each : (v : List ℕ) → (tree_at v common (map plain_entry entries) ≡ tree v) ⊎ Member v coming

module _ (eq : Plain → Plain → Bool) (agree : (x y : Plain) → eq x y ≡ same_tree x y) (common : Plain) where
  differing_each : (es : List (List ℕ × Plain)) → All (λ t. eq t common ≡ false) (values_of es) → Each (λ x. same_tree (first_part x) common ≡ false) (map plain_entry es)
  differing_each [] h = no_item
  differing_each (e ∷ es) h = item (sym (agree e.1 common) ∙ h 0 e.1 (omega arith)) (differing_each es (λ k d lt. h (suc k) d (omega (arith, lt))))

  -- proper entries that give all values their trees are those after the action
  pub all_given : (p : List ℕ) (y : Form) (e : Environment) (a : PlainAction) (es fs : List (List ℕ × Plain)) → ReadyInside p y e common (map plain_entry es) → in_alphabet y (bind p None e) a ≡ false
      → AreProperEntries text_cmp eq common fs → GivesAll common (own_after p y e a common es) [] fs
      → entries_after OwnAlphabet p y e a common (plain_entries es) ≡ plain_entries fs
  all_given p y e a es fs ready outside proper given =
      own_entries p y e a common es fs ready outside (entries_ascend fs proper.ascending) (differing_each fs proper.differing)
      (λ v. elim (given.each v) [ inl h ↦ h | inr m ↦ elim m [ ] ])

  same_tested : (b : Bool) (x : Plain) → eq x common ≡ b → (if b then common else x) ≡ x
  same_tested true x h = sym (same_is x common (sym (agree x common) ∙ h))
  same_tested false x h = refl

  -- the value at the place is given its tree
  pub one_given : (tree : List ℕ → Plain) (vs : List (List ℕ)) (i : ℕ) (v : List ℕ) (x : Plain) (old new : List (List ℕ × Plain)) → i < length vs → v ≡ get_or vs i v → x ≡ tree v
      → item_at text_cmp new common v ≡ (if eq x common then common else x)
      → ((u : List ℕ) → is_eq (text_cmp v u) ≡ false → item_at text_cmp new common u ≡ item_at text_cmp old common u)
      → GivesAll common tree (drop i vs) old → GivesAll common tree (drop (i + 1) vs) new
  one_given tree vs i v x old new lt at is own others given = record { each = λ u. one u (text_eq u v) refl }
    where
      coming : drop i vs ≡ v ∷ drop (i + 1) vs
      coming = drop_more vs i v lt ∙ ap (λ w. w ∷ drop (i + 1) vs) (sym at)

      one : (u : List ℕ) (b : Bool) → text_eq u v ≡ b → (tree_at u common (map plain_entry new) ≡ tree u) ⊎ Member u (drop (i + 1) vs)
      one u true s =
          let same : u ≡ v = (text_eq-decides u v).0 s in
          inl (ap (λ w. tree_at w common (map plain_entry new)) same ∙ tree_at_item v common new ∙ own ∙ same_tested (eq x common) x refl ∙ is ∙ ap tree (sym same))
      one u false s =
          let kept : tree_at u common (map plain_entry new) ≡ tree_at u common (map plain_entry old) = tree_at_item u common new ∙ others u (key_at v u ∙ s) ∙ sym (tree_at_item u common old) in
          elim (given.each u) [
            | inl h ↦ inl (kept ∙ h)
            | inr m ↦ elim (Member-cases (subst (Member u) coming m)) [
              | inl same ↦ absurd (true≢false (sym ((text_eq-decides u v).1 same) ∙ s))
              | inr n ↦ inr n
            ]
          ]

  -- the entries grow by one tree at most
  pub one_more_size : (es : List (List ℕ × Plain)) (v : List ℕ) (x : Plain) (new : List (List ℕ × Plain)) → Ascending (λ y z. text_cmp (key y) (key z)) (map plain_entry es) → new ≡ with_entry text_cmp eq common es v x
      → size_of (plain_entries new) ≤ 1 + size_of x + size_of (plain_entries es)
  one_more_size es v x new h is =
      let made = ap (λ l. size_of (listed (map plain_entry l))) is ∙ ap (λ l. size_of (listed l)) (with_entry_map eq agree common es v x h) in
      omega (arith, made, with_tree_size common v x (map plain_entry es))

-- At the beginning

-- each value but the action's own has its tree already
pub before_own : (p : List ℕ) (y : Form) (e : Environment) (a : PlainAction) (common : Plain) (es fs : List (List ℕ × Plain)) → in_alphabet y (bind p None e) a ≡ false → fs ≡ es
    → GivesAll common (own_after p y e a common es) a.values fs
before_own p y e a common es fs outside same = record {
  each = λ v. elim (member-or-not v a.values) [
    | inl m ↦ inr m
    | inr n ↦ inl (ap (λ l. tree_at v common (map plain_entry l)) same ∙ sym (others_keep p y e a common es outside v n))
  ];
}
