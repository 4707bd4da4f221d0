-- A map in which one value has another tree: its entries with a tree put among them.
use Rattle.std.proofs.Common.{◌≡◌, ℕ, Bool, true, false, not, cond, List, [], ◌∷◌, ◌++◌, map, filter, refl, sym, ap, ◌∙◌, subst, Ordering, Less, Equal, Greater}
use Rattle.std.specs.BTreeMap.{is_at, insert_entry}
use Rattle.std.specs.Cmp.{nat_cmp_total}
use Rattle.std.specs.Cmp.Lexicographic.{lists_total}
use Rattle.std.specs.Map.{remove_entry}
use Rattle.std.specs.Ordering.{is_eq, match_ordering, ordering_then}
use Rattle.ix_words.specs.Each.{Each, no_item, item}
use Rattle.ix_words.specs.Canon.{Ascending, ascending_end, below, by_order, put_once, canon, when}
use Rattle.ix_words.proofs.Each.{Each-head, Each-tail, Each-weaker}
use Rattle.ix_words.proofs.Canon.{canon-itself}
use Rattle.ix_values.specs.Order.{text_eq, text_cmp}
use Rattle.ix_values.specs.lemmas.Order.{text_cmp-same, text_eq-decides}
use Rattle.ix_entries.specs.inside.Entries.{with_entry}
use Rattle.ix_tree.specs.Plain.{Plain, entry}
use Rattle.ix_tree.specs.PlainOf.{plain_entry}
use Rattle.ix_tree.specs.Order.{key, tree_cmp}
use Rattle.ix_tree.specs.lemmas.TreeOrder.{tree_order}
use Rattle.ix_can.specs.Nodes.{same_tree}
use Rattle.ix_can.specs.inside.Moved.{entry_with}
use Rattle.ix_step.proofs.EntriesPut.{key_at}

-- The entries of other values

-- the entries whose value is another
abbrev pub others : List ℕ → List (List ℕ × Plain) → List Plain
others v es = filter (λ x. not (text_eq (key x) v)) (map plain_entry es)

-- each entry's value is above the value
abbrev Above : List ℕ → List (List ℕ × Plain) → Type 0
Above v es = Each (λ x. text_cmp v (key x) ≡ Less) (map plain_entry es)

-- entries of larger values are all of others
above_others : (v : List ℕ) (es : List (List ℕ × Plain)) → Above v es → others v es ≡ map plain_entry es
above_others v [] h = refl
above_others v (e ∷ es) h =
    ap (λ b. cond (not b) (plain_entry e ∷ others v es) (others v es)) (sym (key_at v e.0) ∙ ap is_eq (Each-head h))
    ∙ ap (λ l. plain_entry e ∷ l) (above_others v es (Each-tail h))

-- the same of an equal value
above_same : {u v : List ℕ} (es : List (List ℕ × Plain)) → u ≡ v → Above u es → Above v es
above_same es e h = subst (λ w. Above w es) e h

-- an entry is below those of larger values
below_above : (e : List ℕ × Plain) (es : List (List ℕ × Plain)) → Above e.0 es → Each (λ z. tree_cmp (plain_entry e) z ≡ Less) (map plain_entry es)
below_above e [] h = no_item
below_above e (f ∷ es) h = item (ap (λ o. ordering_then o (ordering_then (tree_cmp e.1 f.1) Equal)) (Each-head h)) (below_above e es (Each-tail h))

each_filter : {A : Type 0} {G : A → Type 0} (test : A → Bool) (w : List A) → Each G w → Each G (filter test w)
each_filter test [] h = no_item
each_filter {A} {G} test (a ∷ w) h = chosen (test a) (each_filter test w (Each-tail h))
  where
    chosen : (b : Bool) → Each G (filter test w) → Each G (cond b (a ∷ filter test w) (filter test w))
    chosen true k = item (Each-head h) k
    chosen false k = k

-- they stand in order
others_ascend : (v : List ℕ) (es : List (List ℕ × Plain)) → Ascending (λ x z. text_cmp (key x) (key z)) (map plain_entry es) → Ascending tree_cmp (others v es)
others_ascend v [] h = ascending_end
others_ascend v (e ∷ es) (below g h) = chosen (not (text_eq e.0 v)) (others_ascend v es h)
  where
    chosen : (b : Bool) → Ascending tree_cmp (others v es) → Ascending tree_cmp (cond b (plain_entry e ∷ others v es) (others v es))
    chosen true k = below (each_filter (λ x. not (text_eq (key x) v)) (map plain_entry es) (below_above e es g)) k
    chosen false k = k

-- One tree put among them

module _ (v : List ℕ) where
  -- without the value's entry the others are left
  remove_others : (es : List (List ℕ × Plain)) → Ascending (λ x z. text_cmp (key x) (key z)) (map plain_entry es) → map plain_entry (remove_entry (is_at (text_cmp v)) es) ≡ others v es
  remove_others [] h = refl
  remove_others (e ∷ es) (below g h) =
      ap (λ b. map plain_entry (cond b es (e ∷ remove_entry (is_at (text_cmp v)) es))) (key_at v e.0)
      ∙ chosen (text_eq e.0 v) refl (remove_others es h)
    where
      chosen : (b : Bool) → text_eq e.0 v ≡ b → map plain_entry (remove_entry (is_at (text_cmp v)) es) ≡ others v es → map plain_entry (cond b es (e ∷ remove_entry (is_at (text_cmp v)) es)) ≡ cond (not b) (plain_entry e ∷ others v es) (others v es)
      chosen true s rest = sym (above_others v es (above_same es ((text_eq-decides e.0 v).0 s) g))
      chosen false s rest = ap (λ l. plain_entry e ∷ l) rest

  module _ (x : Plain) where
    abbrev new : Plain
    new = entry v x

    first_put : (es : List (List ℕ × Plain)) → Above v es → put_once tree_cmp new (map plain_entry es) ≡ new ∷ map plain_entry es
    first_put [] h = refl
    first_put (e ∷ es) h = ap (λ o. by_order (ordering_then o (ordering_then (tree_cmp x e.1) Equal)) (new ∷ map plain_entry (e ∷ es)) (map plain_entry (e ∷ es)) (plain_entry e ∷ put_once tree_cmp new (map plain_entry es))) (Each-head h)

    put_at : (o : Ordering) (e : List ℕ × Plain) (l : List Plain) → text_cmp v e.0 ≡ o → put_once tree_cmp new (plain_entry e ∷ l) ≡ by_order (ordering_then o (ordering_then (tree_cmp x e.1) Equal)) (new ∷ plain_entry e ∷ l) (plain_entry e ∷ l) (plain_entry e ∷ put_once tree_cmp new l)
    put_at o e l c = ap (λ r. by_order (ordering_then r (ordering_then (tree_cmp x e.1) Equal)) (new ∷ plain_entry e ∷ l) (plain_entry e ∷ l) (plain_entry e ∷ put_once tree_cmp new l)) c

    -- with the value's entry, it is put among the others
    insert_others : (es : List (List ℕ × Plain)) → Ascending (λ y z. text_cmp (key y) (key z)) (map plain_entry es) → map plain_entry (insert_entry text_cmp es v x) ≡ put_once tree_cmp new (others v es)
    insert_others [] h = refl
    insert_others (e ∷ es) (below g h) =
        placed (text_cmp v e.0) refl (insert_others es h)
        ∙ ap (λ b. put_once tree_cmp new (cond (not b) (plain_entry e ∷ others v es) (others v es))) (key_at v e.0)
      where
        further : text_cmp v e.0 ≡ Less → Above v es
        further c = Each-weaker (λ z k. (lists_total nat_cmp_total).trans v e.0 (key z) c k) g

        placed : (o : Ordering) → text_cmp v e.0 ≡ o → map plain_entry (insert_entry text_cmp es v x) ≡ put_once tree_cmp new (others v es) → map plain_entry (match_ordering o ((v, x) ∷ e ∷ es) ((e.0, x) ∷ es) (e ∷ insert_entry text_cmp es v x)) ≡ put_once tree_cmp new (cond (not (is_eq o)) (plain_entry e ∷ others v es) (others v es))
        placed Less c rest =
            sym (ap (λ l. put_once tree_cmp new (plain_entry e ∷ l)) (above_others v es (further c)) ∙ put_at Less e (map plain_entry es) c)
        placed Equal c rest =
            let same : v ≡ e.0 = text_cmp-same v e.0 c in
            let above : Above v es = above_same es (sym same) g in
            ap (λ u. entry u x ∷ map plain_entry es) (sym same)
            ∙ sym (ap (put_once tree_cmp new) (above_others v es above) ∙ first_put es above)
        placed Greater c rest =
            ap (λ l. plain_entry e ∷ l) rest ∙ sym (put_at Greater e (others v es) c)

module _ (eq : Plain → Plain → Bool) (agree : (x y : Plain) → eq x y ≡ same_tree x y) where
  -- the entries with the value's tree among them are the canonical list of that entry and the others
  pub with_entry_map : (initial : Plain) (es : List (List ℕ × Plain)) (v : List ℕ) (x : Plain) → Ascending (λ y z. text_cmp (key y) (key z)) (map plain_entry es) → map plain_entry (with_entry text_cmp eq initial es v x) ≡ canon tree_cmp (entry_with initial v x ++ others v es)
  with_entry_map initial es v x h = by_test (eq x initial) (agree x initial)
    where
      itself : canon tree_cmp (others v es) ≡ others v es
      itself = canon-itself tree_order (others v es) (others_ascend v es h)

      by_test : (b : Bool) → b ≡ same_tree x initial → map plain_entry (cond b (remove_entry (is_at (text_cmp v)) es) (insert_entry text_cmp es v x)) ≡ canon tree_cmp (when (not (same_tree x initial)) (entry v x ∷ []) ++ others v es)
      by_test true e =
          remove_others v es h ∙ sym itself
          ∙ ap (λ b. canon tree_cmp (when (not b) (entry v x ∷ []) ++ others v es)) e
      by_test false e =
          insert_others v x es h ∙ ap (put_once tree_cmp (entry v x)) (sym itself)
          ∙ ap (λ b. canon tree_cmp (when (not b) (entry v x ∷ []) ++ others v es)) e
