-- Entries in memory by their values: the tree of a value there is its tree among the plain entries.
use Rattle.std.proofs.Common.{◌≡◌, ℕ, Bool, true, false, cond, List, [], ◌∷◌, map, Option, Some, None, MatchOption, refl, sym, ap, ◌∙◌, subst, if◌then◌else◌}
use Rattle.std.specs.BTreeMap.{is_at}
use Rattle.std.specs.Cmp.{Equal-is, tied_itself}
use Rattle.std.specs.List.{AllByRecursion}
use Rattle.std.specs.List.Sorted.{IsStrictlySortedBy}
use Rattle.std.specs.Map.{keys_of, lookup}
use Rattle.std.specs.Option.{unwrap_or}
use Rattle.std.specs.declared.cmp.Ordering.TheVariants.{Less, Equal}
use Rattle.std.specs.Cmp.{nat_cmp_total}
use Rattle.std.specs.Cmp.Lexicographic.{lists_total}
use Rattle.ix_words.specs.Canon.{Ascending, ascending_end, below}
use Rattle.ix_words.specs.Each.{Each, no_item, item}
use Rattle.ix_words.proofs.Each.{Each-head, Each-tail, Each-weaker, Each-both}
use Rattle.ix_values.specs.Order.{text_eq, text_cmp}
use Rattle.ix_values.specs.lemmas.Order.{text_cmp-same, text_eq-decides}
use Rattle.ix_entries.specs.inside.Entries.{KeysAscend, item_at}
use Rattle.ix_tree.specs.Order.{key, first_part}
use Rattle.ix_tree.specs.Plain.{Plain, dead, items_of}
use Rattle.ix_tree.specs.PlainOf.{plain_entry, plain_entries}
use Rattle.ix_tree.proofs.PlainLists.{items_of-listed}
use Rattle.ix_can.specs.May.{tree_at}
use Rattle.ix_words.proofs.Deciding.{one_test}

-- where plain entries ascend by their values, so do the entries in memory
pub keys_ascend : (es : List (List ℕ × Plain)) → Ascending (λ x y. text_cmp (key x) (key y)) (map plain_entry es) → KeysAscend text_cmp es
unfolding IsStrictlySortedBy
keys_ascend [] h = tt
keys_ascend (e ∷ es) (below first rest) = (later es first, keys_ascend es rest)
  where
    later : (fs : List (List ℕ × Plain)) → Each (λ x. text_cmp e.0 (key x) ≡ Less) (map plain_entry fs) → AllByRecursion (λ k. text_cmp e.0 k ≡ Less) (keys_of fs)
    later [] h = tt
    later (f ∷ fs) h = (Each-head h, later fs (Each-tail h))

-- where entries in memory ascend by their values, so do the plain ones
pub entries_ascend : (es : List (List ℕ × Plain)) → KeysAscend text_cmp es → Ascending (λ x y. text_cmp (key x) (key y)) (map plain_entry es)
unfolding IsStrictlySortedBy
entries_ascend [] h = ascending_end
entries_ascend (e ∷ es) h = below (later es h.0) (entries_ascend es h.1)
  where
    later : (fs : List (List ℕ × Plain)) → AllByRecursion (λ k. text_cmp e.0 k ≡ Less) (keys_of fs) → Each (λ x. text_cmp e.0 (key x) ≡ Less) (map plain_entry fs)
    later [] h = no_item
    later (f ∷ fs) h = item h.0 (later fs h.1)

text_itself : (v : List ℕ) → text_cmp v v ≡ Equal
text_itself v = tied_itself (lists_total nat_cmp_total) v

-- the two tests of a value being the key
key_test : (k v : List ℕ) → text_eq k v ≡ is_at (text_cmp v) k
key_test k v = one_test (text_eq k v) (is_at (text_cmp v) k) (
  λ h. (Equal-is (text_cmp v k)).1 (subst (λ u. text_cmp v u ≡ Equal) (sym ((text_eq-decides k v).0 h)) (text_itself v)),
  λ h. (text_eq-decides k v).1 (sym (text_cmp-same v k ((Equal-is (text_cmp v k)).0 h))),
)

-- the tree of a value is that of its entry, or the common one
pub tree_of_value : (es : List (List ℕ × Plain)) (common : Plain) (v : List ℕ) → item_at text_cmp es common v ≡ tree_at v common (map plain_entry es)
tree_of_value [] common v = refl
tree_of_value (e ∷ es) common v =
    here (is_at (text_cmp v) e.0) (tree_of_value es common v) ∙ ap (λ (b : Bool). if b then e.1 else tree_at v common (map plain_entry es)) (sym (key_test e.0 v))
  where
    here : (b : Bool) → item_at text_cmp es common v ≡ tree_at v common (map plain_entry es) → (unwrap_or (cond b (Some e.1) (lookup (is_at (text_cmp v)) es)) common) ≡ (if b then e.1 else tree_at v common (map plain_entry es))
    here true rest = refl
    here false rest = rest

-- so with the entries as a part
pub state_of_value : (es : List (List ℕ × Plain)) (common : Plain) (v : List ℕ) → item_at text_cmp es common v ≡ tree_at v common (items_of (plain_entries es))
state_of_value es common v = tree_of_value es common v ∙ ap (tree_at v common) (sym (items_of-listed (map plain_entry es)))

-- a look-up tells the tree of the value, which is dead where there is none
pub state_told : {S : Type 0} (plain : S → Plain) (found : Option S) (es : List (List ℕ × Plain)) (v : List ℕ) → MatchOption found (lookup (is_at (text_cmp v)) es ≡ None) (λ s. lookup (is_at (text_cmp v)) es ≡ Some (plain s)) → MatchOption found (tree_at v dead (items_of (plain_entries es)) ≡ dead) (λ s. plain s ≡ tree_at v dead (items_of (plain_entries es)))
state_told plain None es v h = sym (state_of_value es dead v) ∙ ap (λ o. unwrap_or o dead) h
state_told plain (Some s) es v h = sym (ap (λ o. unwrap_or o dead) h) ∙ state_of_value es dead v

-- what the common tree and each entry's have, the tree of every value has
pub tree_at_has : (G : Plain → Type 0) (common : Plain) (v : List ℕ) (xs : List Plain) → G common → Each (λ x. G (first_part x)) xs → G (tree_at v common xs)
tree_at_has G common v [] h each = h
tree_at_has G common v (x ∷ xs) h each = one (text_eq (key x) v) (Each-head each) (tree_at_has G common v xs h (Each-tail each))
  where
    one : (b : Bool) → G (first_part x) → G (tree_at v common xs) → G (if b then first_part x else tree_at v common xs)
    one true here later = here
    one false here later = later

-- where the values ascend strictly, the tree of an entry's value is the entry's
pub tree_at_own : (common : Plain) (xs : List Plain) → Ascending (λ x y. text_cmp (key x) (key y)) xs → Each (λ x. tree_at (key x) common xs ≡ first_part x) xs
tree_at_own common [] h = no_item
tree_at_own common (x ∷ xs) (below g h) =
    item
    (ap (λ (b : Bool). if b then first_part x else tree_at (key x) common xs) ((text_eq-decides (key x) (key x)).1 refl))
    (Each-weaker (λ z k. ap (λ (b : Bool). if b then first_part x else tree_at (key z) common xs) (differs z (text_eq (key x) (key z)) refl k.0) ∙ k.1) (Each-both g (tree_at_own common xs h)))
  where
    less_not_equal : ¬ (Less ≡ Equal)
    less_not_equal h = absurd (cc)

    differs : (z : Plain) (b : Bool) → text_eq (key x) (key z) ≡ b → text_cmp (key x) (key z) ≡ Less → text_eq (key x) (key z) ≡ false
    differs z false e l = e
    differs z true e l =
        let same : key x ≡ key z = (text_eq-decides (key x) (key z)).0 e in
        absurd (less_not_equal (sym (ap (text_cmp (key x)) same ∙ l) ∙ text_itself (key x)))
