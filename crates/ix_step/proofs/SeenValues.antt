-- A value of the action that the body doesn't see, and that has no entry, moves as outside does.
use Rattle.std.proofs.Common.{◌≡◌, ◌⊎◌, inl, inr, ℕ, ◌+◌, ◌<◌, length, true, false, not, List, [], ◌∷◌, ◌++◌, map, take, get_or, Some, None, sym, subst, ap, ◌∙◌, true≢false}
use Rattle.std.specs.List.{list_any}
use Rattle.std.specs.Map.{keys_of}
use Rattle.std.proofs.lemmas.List.{take_more}
use Rattle.ix_words.specs.Canon.{when}
use Rattle.ix_words.specs.Each.{Member, here}
use Rattle.ix_words.proofs.Each.{Each-members, Member-left, Member-right, Member-either}
use Rattle.ix_words.proofs.Canon.{Member-cases, when-Member, flat_map-Member, canon-same}
use Rattle.ix_values.specs.Order.{text_eq}
use Rattle.ix_values.specs.PlainAction.{PlainAction}
use Rattle.ix_values.specs.lemmas.Order.{text_eq-decides}
use Rattle.ix_expr.specs.Form.{Form}
use Rattle.ix_expr.specs.Environment.{Environment, bind}
use Rattle.ix_expr.specs.Laws.{AtomsAgreeAt}
use Rattle.ix_expr.specs.Sees.{Sees}
use Rattle.ix_expr.proofs.Unseen.{unseen-outside}
use Rattle.ix_tree.specs.Plain.{Plain, entry, listed}
use Rattle.ix_tree.specs.PlainOf.{plain_entry, plain_entries}
use Rattle.ix_tree.specs.lemmas.TreeOrder.{tree_order}
use Rattle.ix_can.specs.Nodes.{same_tree}
use Rattle.ix_can.specs.TreeOf.{entries_of}
use Rattle.ix_can.specs.May.{tree_at}
use Rattle.ix_can.specs.inside.Moved.{moved_inside}
use Rattle.ix_words.proofs.Deciding.{itself, any_says}
use Rattle.ix_can.proofs.Lists.{when_not}
use Rattle.ix_can.proofs.MovesAlike.{atoms_alphabet, moved_alike}
use Rattle.ix_can.proofs.Nodes.{same_from, entry_is}
use Rattle.ix_step.specs.declared.bodies.Reach.{Reach}
use Rattle.ix_step.specs.declared.bodies.Reach.TheVariants.{All, Must, OwnAlphabet}
use Rattle.ix_step.specs.inside.EnterTrees.{entries_put}
use Rattle.ix_step.specs.inside.ValueTrees.{ReadyInside, moved_part, common_after, tree_after, entries_after, touched, AddsSeen, TakesIn}
use Rattle.ix_step.proofs.Gathered.{put_all-nothing}
use Rattle.ix_step.proofs.Gathering.{each_at}
use Rattle.ix_step.proofs.OwnEntries.{found, key_among}
use Rattle.ix_step.proofs.Quantifying.{entries_touched}

-- One value after the other

module _ (y : Form) (p : List ℕ) (a : PlainAction) where
  -- nothing is offered yet
  pub none_added : (values : List (List ℕ)) → AddsSeen y p a [] values values
  none_added values = record { within = λ v m. inl m; kept = λ v m. m; seen = λ v m. elim m [ ] }

  -- one value more is offered
  pub one_added : (vs old mid new : List (List ℕ)) (i : ℕ) (v : List ℕ) → i < length vs → v ≡ get_or vs i v → AddsSeen y p a (take i vs) old mid → AddsSeen y p a (v ∷ []) mid new → AddsSeen y p a (take (i + 1) vs) old new
  one_added vs old mid new i v lt same h k =
      subst (λ us. AddsSeen y p a us old new) (ap (λ u. take i vs ++ u ∷ []) same ∙ sym (take_more vs i v lt))
      (record { within = within; kept = λ u m. k.kept u (h.kept u m); seen = seen })
    where
      within : (u : List ℕ) → Member u new → Member u old ⊎ Member u (take i vs ++ v ∷ [])
      within u m = elim (k.within u m) [
        | inl n ↦ elim (h.within u n) [ inl o ↦ inl o | inr o ↦ inr (Member-left o (v ∷ [])) ]
        | inr n ↦ inr (Member-right (take i vs) n)
      ]

      seen : (u : List ℕ) → Member u (take i vs ++ v ∷ []) → Member u new ⊎ (¬ Sees y p u a)
      seen u m = elim (Member-either (take i vs) (v ∷ []) m) [
        | inl n ↦ elim (h.seen u n) [ inl o ↦ inl (k.kept u o) | inr o ↦ inr o ]
        | inr n ↦ k.seen u n
      ]

  -- a value that isn't seen is left out, and one that is comes last
  pub left_out : (v : List ℕ) (values : List (List ℕ)) → ¬ Sees y p v a → AddsSeen y p a (v ∷ []) values values
  left_out v values n = record {
    within = λ u m. inl m;
    kept = λ u m. m;
    seen = λ u m. inr (elim (Member-cases m) [ inl same ↦ subst (λ w. ¬ Sees y p w a) (sym same) n | inr none ↦ elim none [ ] ]);
  }

  -- nor is one put in again that is there
  pub there_already : (v : List ℕ) (values : List (List ℕ)) → list_any (λ u. text_eq u v) values ≡ true → AddsSeen y p a (v ∷ []) values values
  there_already v values passes = record {
    within = λ u m. inl m;
    kept = λ u m. m;
    seen = λ u m. inl (elim (Member-cases m) [ inl same ↦ subst (λ w. Member w values) (sym same) among | inr none ↦ elim none [ ] ]);
  }
    where
      among : Member v values
      among =
          let some = (any_says (λ u. text_eq u v) values).0 passes in
          subst (λ w. Member w values) ((text_eq-decides some.which v).0 some.passes) some.among

  pub come_last : (v : List ℕ) (values : List (List ℕ)) → AddsSeen y p a (v ∷ []) values (values ++ v ∷ [])
  come_last v values = record {
    within = λ u m. Member-either values (v ∷ []) m;
    kept = λ u m. Member-left m (v ∷ []);
    seen = λ u m. inl (Member-right values m);
  }

  -- the values that have entries, and then those of the action that are seen
  pub taken_in : (es : List (List ℕ × Plain)) (values : List (List ℕ)) → AddsSeen y p a a.values (keys_of es) values → TakesIn y p a es values
  taken_in es values h = record {
    within = λ v m. elim (h.within v m) [ inl k ↦ Member-left k a.values | inr k ↦ Member-right (keys_of es) k ];
    entered = h.kept;
    seen = h.seen;
  }

-- the item at a place is among the items
pub item_among : (vs : List (List ℕ)) (i : ℕ) (v : List ℕ) → i < length vs → v ≡ get_or vs i v → Member v vs
item_among vs i v lt is = each_at {G = λ u. Member u vs} vs i v lt is (Each-members vs (λ u m. m))

-- What the others become

-- environments under which the atoms match alike move a part alike
part_alike : (reach : Reach) (y : Form) (e f : Environment) (a : PlainAction) (t : Plain) → AtomsAgreeAt y e f a → moved_part reach y e a t ≡ moved_part reach y f a t
part_alike All y e f a t k = moved_alike a y t e f k
part_alike Must y e f a t k = moved_alike a y t e f k
part_alike OwnAlphabet y e f a t k = (λ i. moved_inside (atoms_alphabet a y e f k i) (moved_alike a y t e f k i) t)

module _ (reach : Reach) (p : List ℕ) (y : Form) (e : Environment) (a : PlainAction) (common : Plain) (es : List (List ℕ × Plain)) where
  -- the common tree and the tree of a value after the action
  abbrev next : Plain
  next = common_after reach p y e a common

  abbrev after : List ℕ → Plain
  after = tree_after reach p y e a common (map plain_entry es)

  -- a value without an entry that the body doesn't see has the common tree
  as_outside : (v : List ℕ) → tree_at v common (map plain_entry es) ≡ common → ¬ Sees y p v a → same_tree (after v) next ≡ true
  as_outside v h n =
      same_from (after v) next
      (ap (moved_part reach y (bind p (Some v) e) a) h ∙ part_alike reach y (bind p (Some v) e) (bind p None e) a common (unseen-outside y e p v a n))

  module _ (vs : List (List ℕ)) (takes : TakesIn y p a es vs) where
    -- so of the touched values those are enough that have entries or are seen
    enough : (v : List ℕ) → Member v (touched es a) → same_tree (after v) next ≡ false → Member v vs
    enough v m differs = elim (Member-either (keys_of es) a.values m) [
      | inl k ↦ takes.entered v k
      | inr own ↦ elim (takes.seen v own) [
        | inl k ↦ k
        | inr n ↦ elim (found common v es) [
          | inl h ↦ absurd (true≢false (sym (as_outside v h n) ∙ differs))
          | inr k ↦ takes.entered v (key_among v (tree_at v common (map plain_entry es)) es k)
        ]
      ]
    ]

    put_same : entries_put next after (touched es a) ≡ entries_put next after vs
    put_same =
        put_all-nothing (entries_of next after (touched es a))
        ∙ canon-same tree_order (entries_of next after (touched es a)) (entries_of next after vs) (record { to = to; from = from })
        ∙ sym (put_all-nothing (entries_of next after vs))
      where
        entered : (us : List (List ℕ)) (v : List ℕ) → Member v us → same_tree (after v) next ≡ false → Member (entry v (after v)) (entries_of next after us)
        entered us v m differs =
            flat_map-Member (λ u. when (not (same_tree (after u) next)) (entry u (after u) ∷ [])) m (when-Member ((when_not (same_tree (after v) next) itself).1 differs) here)

        to : (x : Plain) → Member x (entries_of next after (touched es a)) → Member x (entries_of next after vs)
        to x m =
            let k = entry_is next after (touched es a) m in
            subst (λ z. Member z (entries_of next after vs)) (sym k.has.1) (entered vs k.way (enough k.way k.among k.has.0) k.has.0)

        from : (x : Plain) → Member x (entries_of next after vs) → Member x (entries_of next after (touched es a))
        from x m =
            let k = entry_is next after vs m in
            subst (λ z. Member z (entries_of next after (touched es a))) (sym k.has.1) (entered (touched es a) k.way (takes.within k.way k.among) k.has.0)

  -- the entries after an action are those of values that take in each that has an entry or is seen
  pub entries_are : (now : Plain) (vs : List (List ℕ)) → ReadyInside p y e common (map plain_entry es) → now ≡ common_after reach p y e a common → TakesIn y p a es vs
      → entries_after reach p y e a common (plain_entries es) ≡ listed (entries_put now (tree_after reach p y e a common (map plain_entry es)) vs)
  entries_are now vs r n takes =
      entries_touched reach p y e a common es r
      ∙ ap listed (put_same vs takes)
      ∙ ap (λ x. listed (entries_put x (tree_after reach p y e a common (map plain_entry es)) vs)) (sym n)
