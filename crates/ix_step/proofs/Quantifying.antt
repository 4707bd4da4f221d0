-- The quantifiers' trees: what is asked of the trees of values before they are moved, and the entries after an action.
use Rattle.std.proofs.Common.{◌≡◌, ℕ, ◌+◌, ◌≤◌, Bool, true, false, ◌&&◌, List, [], ◌∷◌, ◌++◌, map, flat_map, Option, Some, None, refl, sym, ap, ◌∙◌, subst, arith, if◌then◌else◌}
use Rattle.std.specs.List.{list_any, list_all}
use Rattle.std.specs.Map.{keys_of}
use Rattle.ix_words.specs.Each.{Each, no_item, item}
use Rattle.ix_words.specs.Canon.{Ascending}
use Rattle.ix_words.proofs.Each.{Each-append, Each-anything, Each-head, Each-tail, Each-weaker, Each-both}
use Rattle.ix_words.proofs.Canon.{flat_map-append}
use Rattle.ix_values.specs.Order.{text_eq, text_cmp}
use Rattle.ix_values.specs.PlainAction.{PlainAction}
use Rattle.ix_expr.specs.Form.{Form, any, every, sync}
use Rattle.ix_expr.specs.Environment.{Environment, bind}
use Rattle.ix_expr.specs.Fitting.{FitsInside}
use Rattle.ix_expr.specs.FormFaults.{Fits}
use Rattle.ix_expr.proofs.Parts.{fits-operands}
use Rattle.ix_tree.specs.Plain.{Plain, listed, items_of, any as any_of, every as every_of, sync as sync_of}
use Rattle.ix_tree.specs.PlainOf.{plain_entry, plain_entries}
use Rattle.ix_tree.specs.Order.{key, first_part}
use Rattle.ix_tree.specs.Size.{size_of}
use Rattle.ix_tree.proofs.PlainLists.{items_of-listed}
use Rattle.ix_can.specs.Nodes.{set_of}
use Rattle.ix_can.specs.TreeOf.{entries_of}
use Rattle.ix_can.specs.Laws.{IsProper, ProperEntries}
use Rattle.ix_expr.specs.Tests.{in_alphabet, values_and_outside}
use Rattle.ix_can.specs.May.{may, tree_at}
use Rattle.ix_can.specs.inside.Moved.{entry_with}
use Rattle.ix_can.proofs.Keys.{tree_at_has, tree_at_own}
use Rattle.ix_can.proofs.Lists.{all_to}
use Rattle.ix_step.specs.inside.Ready.{Ready}
use Rattle.ix_step.specs.inside.EnterTrees.{entries_put}
use Rattle.ix_step.specs.inside.ValueTrees.{ReadyInside, part_may, EachMay, moved_part, common_after, tree_after, entries_after, touched}
use Rattle.ix_step.specs.declared.bodies.Reach.{Reach}
use Rattle.ix_step.specs.declared.bodies.Reach.TheVariants.{All, Must, OwnAlphabet}
use Rattle.ix_step.proofs.Gathered.{put_all-nothing}
use Rattle.ix_step.proofs.Pruning.{both_first, both_second}

-- The trees of values

-- it is no larger than the common tree and the entries together
pub tree_at_size : (v : List ℕ) (common : Plain) (es : List (List ℕ × Plain)) → size_of (tree_at v common (map plain_entry es)) ≤ size_of common + size_of (plain_entries es)
tree_at_size v common [] = omega arith
tree_at_size v common (e ∷ es) = chosen (text_eq e.0 v) (tree_at_size v common es)
  where
    chosen : (b : Bool) → size_of (tree_at v common (map plain_entry es)) ≤ size_of common + size_of (plain_entries es) → size_of (if b then e.1 else tree_at v common (map plain_entry es)) ≤ size_of common + size_of (plain_entries (e ∷ es))
    chosen true k = omega arith
    chosen false k = omega (arith, k)

-- What is asked of them

-- the body is ready under each value
pub at_ready : {p : List ℕ} {y : Form} {e : Environment} {t : Plain} (v : Option (List ℕ)) (f : Environment) → f ≡ bind p v e → FitsInside p y e → IsProper y t → size_of t ≤ 1000000 → Ready y f t
at_ready {y = y} v f is fits proper small =
    record { fits = subst (Fits y) (sym is) (fits.body v); proper = proper; small = small }

module _ (p : List ℕ) (y : Form) (e : Environment) (common : Plain) where
  -- of the common tree
  pub common_ready : (xs : List Plain) → ReadyInside p y e common xs → Ready y (bind p None e) common
  common_ready xs r = record { fits = r.fits.body None; proper = r.proper; small = omega (arith, r.small) }

  -- of the tree of each value
  pub value_ready : (es : List (List ℕ × Plain)) (v : List ℕ) → ReadyInside p y e common (map plain_entry es) → Ready y (bind p (Some v) e) (tree_at v common (items_of (plain_entries es)))
  value_ready es v r =
      subst (λ l. Ready y (bind p (Some v) e) (tree_at v common l)) (sym (items_of-listed (map plain_entry es)))
      (record {
        fits = r.fits.body (Some v);
        proper = tree_at_has (IsProper y) common v (map plain_entry es) r.proper r.beside.each;
        small = omega (arith, r.small, tree_at_size v common es);
      })

beside_listed : (y : Form) (common : Plain) (es : List (List ℕ × Plain)) → ProperEntries (IsProper y) common (items_of (plain_entries es)) → ProperEntries (IsProper y) common (map plain_entry es)
beside_listed y common es h = subst (ProperEntries (IsProper y) common) (items_of-listed (map plain_entry es)) h

module _ {p : List ℕ} {y : Form} {e : Environment} {common : Plain} (es : List (List ℕ × Plain)) where
  pub any_ready : Ready (any p y) e (any_of common (plain_entries es)) → ReadyInside p y e common (map plain_entry es)
  any_ready r =
      record { fits = fits-operands (any p y) e r.fits; proper = r.proper.0; beside = beside_listed y common es r.proper.1; small = r.small }

  pub every_ready : Ready (every p y) e (every_of common (plain_entries es)) → ReadyInside p y e common (map plain_entry es)
  every_ready r =
      record { fits = fits-operands (every p y) e r.fits; proper = r.proper.0; beside = beside_listed y common es r.proper.1; small = r.small }

  pub sync_ready : Ready (sync p y) e (sync_of common (plain_entries es)) → ReadyInside p y e common (map plain_entry es)
  sync_ready r =
      record { fits = fits-operands (sync p y) e r.fits; proper = r.proper.0; beside = beside_listed y common es r.proper.1; small = r.small }

-- The entries after an action

-- the entry of the value's tree, where that differs from the common one
abbrev entry_at : Plain → (List ℕ → Plain) → List ℕ → List Plain
entry_at next tree v = entry_with next v (tree v)

made_by_keys : (next : Plain) (tree : List ℕ → Plain) (made : Plain → List Plain) (xs : List Plain) → Each (λ x. made x ≡ entry_at next tree (key x)) xs → flat_map made xs ≡ flat_map (entry_at next tree) (map key xs)
made_by_keys next tree made [] h = refl
made_by_keys next tree made (x ∷ xs) h = λ i. Each-head h i ++ made_by_keys next tree made xs (Each-tail h) i

-- what is made of the entries and of other values is put for the keys and those values
made_is_put : (next : Plain) (tree : List ℕ → Plain) (made : Plain → List Plain) (xs : List Plain) (vs : List (List ℕ)) → Each (λ x. made x ≡ entry_at next tree (key x)) xs → set_of (flat_map made xs ++ flat_map (entry_at next tree) vs) ≡ listed (entries_put next tree (map key xs ++ vs))
made_is_put next tree made xs vs h =
    ap (λ l. set_of (l ++ flat_map (entry_at next tree) vs)) (made_by_keys next tree made xs h)
    ∙ ap set_of (sym (flat_map-append (entry_at next tree) (map key xs) vs))
    ∙ ap listed (sym (put_all-nothing (entries_of next tree (map key xs ++ vs))))

keys_listed : (es : List (List ℕ × Plain)) → map key (map plain_entry es) ≡ keys_of es
keys_listed [] = refl
keys_listed (e ∷ es) = ap (λ l. e.0 ∷ l) (keys_listed es)

module _ (move : List ℕ → Plain → Plain) (common next : Plain) (vs : List (List ℕ)) where
  -- the tree of the value after a move
  abbrev tree_moved : List Plain → List ℕ → Plain
  tree_moved xs v = move v (tree_at v common xs)

  abbrev own_made : Plain → List Plain
  own_made x = entry_with next (key x) (move (key x) (first_part x))

  own_is_moved : (xs : List Plain) (x : Plain) → tree_at (key x) common xs ≡ first_part x → own_made x ≡ entry_at next (tree_moved xs) (key x)
  own_is_moved xs x k = ap (λ (t : Plain). entry_with next (key x) (move (key x) t)) (sym k)

  -- the moved entries and those of other values, for the entries as a list
  moved_is_put : (xs : List Plain) → Ascending (λ x z. text_cmp (key x) (key z)) xs → set_of (flat_map own_made xs ++ flat_map (λ v. entry_with next v (move v (tree_at v common xs))) vs) ≡ listed (entries_put next (tree_moved xs) (map key xs ++ vs))
  moved_is_put xs h =
      made_is_put next (tree_moved xs) own_made xs vs
      (Each-weaker {G = λ x. tree_at (key x) common xs ≡ first_part x} {H = λ x. own_made x ≡ entry_at next (tree_moved xs) (key x)} (own_is_moved xs) (tree_at_own common xs h))

  -- and for the entries in memory
  pub moved_are_put : (es : List (List ℕ × Plain)) → Ascending (λ x z. text_cmp (key x) (key z)) (map plain_entry es) → set_of (flat_map (λ x. entry_with next (key x) (move (key x) (first_part x))) (items_of (plain_entries es)) ++ flat_map (λ v. entry_with next v (move v (tree_at v common (items_of (plain_entries es))))) vs) ≡ listed (entries_put next (λ v. move v (tree_at v common (map plain_entry es))) (keys_of es ++ vs))
  moved_are_put es h =
      ap (λ (xs : List Plain). set_of (flat_map own_made xs ++ flat_map (λ v. entry_with next v (move v (tree_at v common xs))) vs)) (items_of-listed (map plain_entry es))
      ∙ moved_is_put (map plain_entry es) h
      ∙ ap (λ (ks : List (List ℕ)). listed (entries_put next (tree_moved (map plain_entry es)) (ks ++ vs))) (keys_listed es)

-- the entries after an action are those of the touched values
pub entries_touched : (reach : Reach) (p : List ℕ) (y : Form) (e : Environment) (a : PlainAction) (common : Plain) (es : List (List ℕ × Plain)) → ReadyInside p y e common (map plain_entry es) → entries_after reach p y e a common (plain_entries es) ≡ listed (entries_put (common_after reach p y e a common) (tree_after reach p y e a common (map plain_entry es)) (touched es a))
entries_touched reach p y e a common es r =
    moved_are_put (λ v t. moved_part reach y (bind p (Some v) e) a t) common (common_after reach p y e a common) a.values es r.beside.ascending

module _ (reach : Reach) (p : List ℕ) (y : Form) (e : Environment) (a : PlainAction) (common : Plain) (es : List (List ℕ × Plain)) where
  -- the tree of a value after the action
  pub value_moves : (v : List ℕ) (t : Plain) → t ≡ tree_at v common (items_of (plain_entries es)) → moved_part reach y (bind p (Some v) e) a t ≡ tree_after reach p y e a common (map plain_entry es) v
  value_moves v t h =
      ap (moved_part reach y (bind p (Some v) e) a) (h ∙ ap (tree_at v common) (items_of-listed (map plain_entry es)))

-- Which trees may move

-- what the keys have, each item's key has
each_key : {G : List ℕ → Type 0} (xs : List Plain) → Each (λ x. G (key x)) xs → Each G (map key xs)
each_key [] h = no_item
each_key (x ∷ xs) h = item (Each-head h) (each_key xs (Each-tail h))

module _ (reach : Reach) (p : List ℕ) (y : Form) (e : Environment) (a : PlainAction) (common : Plain) (es : List (List ℕ × Plain)) where
  abbrev own_may : Plain → Bool
  own_may x = part_may reach y (bind p (Some (key x)) e) a (first_part x)

  abbrev value_may : List Plain → List ℕ → Bool
  value_may xs v = part_may reach y (bind p (Some v) e) a (tree_at v common xs)

  -- the tree of each touched value may move where each entry's and each of the action's may
  pub each_may : ReadyInside p y e common (map plain_entry es) → (list_all own_may (items_of (plain_entries es)) && list_all (value_may (items_of (plain_entries es))) a.values) ≡ true → EachMay reach p y e a common es
  each_may r h =
      let xs : List Plain = map plain_entry es in
      let k : (list_all own_may xs && list_all (value_may xs) a.values) ≡ true = subst (λ (us : List Plain). (list_all own_may us && list_all (value_may us) a.values) ≡ true) (items_of-listed xs) h in
      let own = all_to own_may xs (both_first (list_all own_may xs) (list_all (value_may xs) a.values) k) in
      let each = all_to (value_may xs) a.values (both_second (list_all own_may xs) (list_all (value_may xs) a.values) k) in
      let keys : Each (λ x. value_may xs (key x) ≡ true) xs =
      Each-weaker (λ x q. ap (part_may reach y (bind p (Some (key x)) e) a) q.0 ∙ q.1) (Each-both (tree_at_own common xs r.beside.ascending) own) in
      Each-append (subst (Each (λ v. value_may xs v ≡ true)) (keys_listed es) (each_key {G = λ v. value_may xs v ≡ true} xs keys)) each

module _ (p : List ℕ) (y : Form) (e : Environment) (a : PlainAction) (common : Plain) (es : List (List ℕ × Plain)) where
  -- of `any` none must
  pub any_each : EachMay All p y e a common es
  any_each = Each-anything (λ v. refl) (touched es a)

  -- of `every` each must
  pub every_common : may (every p y) e (every_of common (plain_entries es)) a ≡ true → may y (bind p None e) common a ≡ true
  every_common h = both_first (may y (bind p None e) common a) _ h

  pub every_each : ReadyInside p y e common (map plain_entry es) → may (every p y) e (every_of common (plain_entries es)) a ≡ true → EachMay Must p y e a common es
  every_each r h = each_may Must p y e a common es r (both_second (may y (bind p None e) common a) _ h)

  -- of `sync` each that has the action in its alphabet
  pub sync_common : may (sync p y) e (sync_of common (plain_entries es)) a ≡ true → part_may OwnAlphabet y (bind p None e) a common ≡ true
  sync_common h =
      both_first (part_may OwnAlphabet y (bind p None e) a common) _ (both_second (list_any (λ v. in_alphabet y (bind p v e) a) (values_and_outside a)) _ h)

  pub sync_each : ReadyInside p y e common (map plain_entry es) → may (sync p y) e (sync_of common (plain_entries es)) a ≡ true → EachMay OwnAlphabet p y e a common es
  sync_each r h =
      each_may OwnAlphabet p y e a common es r
      (both_second (part_may OwnAlphabet y (bind p None e) a common) _ (both_second (list_any (λ v. in_alphabet y (bind p v e) a) (values_and_outside a)) _ h))
