-- Of each operator: where the trees of its operands tell what is partial and complete, so do its own.
use Rattle.std.proofs.Common.{◌≡◌, ◌↔◌, ◌⊎◌, inl, inr, ℕ, Bool, true, false, not, ◌&&◌, ◌||◌, List, [], ◌∷◌, ◌++◌, map, flat_map, filter, refl, sym, ap, ◌∙◌, subst, true≢false, append-nil, if◌then◌else◌}
use Rattle.std.specs.List.{list_any, list_all}
use Rattle.ix_words.specs.Each.{Each}
use Rattle.ix_words.specs.Words.{Joined, Repeated}
use Rattle.ix_words.specs.Canon.{when, cuts, splits}
use Rattle.ix_words.proofs.Each.{Each-weaker}
use Rattle.ix_values.specs.PlainAction.{PlainAction, Word}
use Rattle.ix_expr.specs.Form.{PlainAtom, Form, atom, opt, seq, star, par, par_star, or, and, couple}
use Rattle.ix_expr.specs.Environment.{Environment, Matches}
use Rattle.ix_expr.specs.Meaning.{IsOneMatch, IsComplete, IsPartial}
use Rattle.ix_expr.proofs.LawsOfMeaning.{empty-partial, complete-partial}
use Rattle.ix_tree.specs.Plain.{Plain, dead, done, opt as opt_tree, star as star_tree, par as par_tree, par_star as par_star_tree, or as or_tree, and as and_tree, couple as couple_tree, pair as pair_of, bag as bag_of}
use Rattle.ix_tree.specs.Order.{first_part, second_part}
use Rattle.ix_expr.specs.Tests.{is_match, in_alphabet}
use Rattle.ix_can.specs.Ways.{is_empty, is_concatenation, numberings, nonempty_parts}
use Rattle.ix_can.specs.Nodes.{is_dead, is_done, is_live, is_ended, is_open, unless_done, is_spent, listed, items_of, set_of, sorted, live, seq_parts}
use Rattle.ix_can.specs.TreeOf.{is_final, tree_of, atom_tree, live_pair, live_bag}
use Rattle.ix_words.proofs.Deciding.{itself, iff_trans, when_either, when_both}
use Rattle.ix_can.proofs.Lists.{both_iff, same_test, unless_either, unless_both, when_not, unless_not, all_are, when_passes, one_passes, made_says, all_map, passes_all, filled, empty_says, filled_says}
use Rattle.ix_expr.proofs.Testing.{match_says, alphabet_says}
use Rattle.ix_can.proofs.Ways.{joined_says, split_says, concatenation_says, numbered_says}
use Rattle.ix_can.proofs.Spent.{Kind, is_the_dead, is_the_done, stays_open, kind, final_done, final_is_done, live_ended, any_ended, all_open, empty_is, only_pair_final, two_final}
use Rattle.ix_can.proofs.Nodes.{Told, never_dead, node_tells, live_says, live_listed, live_lives, live_final, final_says, tree_live, any_set, all_sorted, projected_says}

-- Atoms

one_told : (x : PlainAtom) (e : Environment) (a : PlainAction) (b : Bool) → is_match x e a ≡ b → Told (IsOneMatch x e (a ∷ [])) ((a ∷ [] ≡ []) ⊎ IsOneMatch x e (a ∷ [])) (atom x) (if b then done else dead)
one_told x e a true h =
    let k : IsOneMatch x e (a ∷ []) = (a, refl, (match_says x e a).0 h) in
    record { partial = (λ i. inr k, λ i. refl); complete = (λ i. k, λ i. refl) }
one_told x e a false h = record {
  partial = (λ i. absurd (true≢false i), λ i. absurd (elim i [ inl n ↦ not_empty n | inr k ↦ no_match k ]));
  complete = (λ i. absurd (true≢false (sym i)), λ k. absurd (no_match k));
}
  where
    not_empty : ¬ (a ∷ [] ≡ [])
    not_empty n = cc

    no_match : ¬ IsOneMatch x e (a ∷ [])
    no_match k =
        let one : a ∷ [] ≡ k.0 ∷ [] = k.1 in
        let same : k.0 ≡ a = cc in
        true≢false (sym ((match_says x e a).1 (subst (Matches x e) same k.2)) ∙ h)

pub atom_told : (x : PlainAtom) (e : Environment) (w : Word) → Told (IsOneMatch x e w) ((w ≡ []) ⊎ IsOneMatch x e w) (atom x) (atom_tree x e w)
atom_told x e [] = record {
  partial = (λ i. inl refl, λ i. refl);
  complete = (λ i. absurd (true≢false (sym i)), λ k. let n : [] ≡ k.0 ∷ [] = k.1 in absurd (cc));
}
atom_told x e (a ∷ []) = one_told x e a (is_match x e a) refl
atom_told x e (a ∷ b ∷ w) = record {
  partial = (λ i. absurd (true≢false i), λ i. absurd (elim i [ inl n ↦ not_empty n | inr k ↦ too_long k ]));
  complete = (λ i. absurd (true≢false (sym i)), λ k. absurd (too_long k));
}
  where
    not_empty : ¬ (a ∷ b ∷ w ≡ [])
    not_empty n = cc

    too_long : ¬ IsOneMatch x e (a ∷ b ∷ w)
    too_long k = let one : a ∷ b ∷ w ≡ k.0 ∷ [] = k.1 in cc

-- the trees of all words tell what is partial and what is complete
abbrev pub Tells : Form → Environment → Type 0
Tells y e = (w : Word) → Told (IsComplete y e w) (IsPartial y e w) y (tree_of y e w)

or_true : (b : Bool) → b || true ≡ true
or_true true = refl
or_true false = refl

pub opt_told : (y : Form) (e : Environment) → Tells y e → Tells (opt y) e
opt_told y e k w =
    node_tells (opt y) (is_dead (tree_of y e w)) (opt_tree (is_empty w) (tree_of y e w)) refl (k w).partial
    (λ p. when_either (is_empty w) (is_final y (tree_of y e w)) (empty_says w) (k w).complete)
    (complete-partial (opt y) e w)
    (λ p s. ap (λ b. is_empty w || b) (final_is_done y (tree_of y e w) s) ∙ or_true (is_empty w))

module _ (y z : Form) (e : Environment) where
  -- the second part's trees behind what is complete in the first
  abbrev pub seq_rest : Word × Word → List Plain
  seq_rest c = when (is_final y (tree_of y e c.0)) (live (tree_of z e c.1))

  pub seq_says : Tells y e → (test : Plain → Bool) (c : Word × Word) {R : Type 0} → (list_any test (live (tree_of z e c.1)) ≡ true) ↔ R → (list_any test (seq_rest c) ≡ true) ↔ (IsComplete y e c.0 × R)
  seq_says k test c r = iff_trans (when_passes test (is_final y (tree_of y e c.0)) (live (tree_of z e c.1))) (both_iff (k c.0).complete r)

  -- where the word is partial and its first part is spent or dead, the second part has begun
  second_begun : Tells y e → (w : Word) → IsPartial (seq y z) e w → is_dead (unless_done (tree_of y e w)) ≡ true → Joined (IsComplete y e) (IsPartial z e) w
  second_begun k w (inr j) d = j
  second_begun k w (inl p) d = by_kind (kind (tree_of y e w))
    where
      by_kind : Kind (tree_of y e w) → Joined (IsComplete y e) (IsPartial z e) w
      by_kind (is_the_dead h) = absurd (true≢false (sym (ap is_dead h) ∙ (k w).partial.1 p))
      by_kind (is_the_done h) = record {
        front = w;
        back = [];
        whole = sym (append-nil w);
        front_has = (k w).complete.0 (ap (is_final y) h ∙ final_done y);
        back_has = empty-partial z e;
      }
      by_kind (stays_open o h m) = absurd (true≢false (sym d ∙ ap (λ b. is_dead (if b then dead else tree_of y e w)) m ∙ h))

  -- so where there is no open alternative, one is done
  some_done : Tells y e → Tells z e → (w : Word) → IsPartial (seq y z) e w → is_spent (seq_parts (tree_of y e w) (flat_map seq_rest (cuts w))) ≡ true → list_any is_done (flat_map seq_rest (cuts w)) ≡ true
  some_done k l w p s =
      let rest : List Plain = flat_map seq_rest (cuts w) in
      let kept : List Plain = filter is_open rest in
      let h = (when_both (is_dead (unless_done (tree_of y e w))) (is_empty (items_of (set_of kept))) itself itself).0 s in
      let begun : list_any is_live rest ≡ true = (iff_trans (made_says is_live seq_rest (cuts w) (λ c m. seq_says k is_live c (live_lives (tree_of z e c.1) (l c.1)))) (joined_says w)).1 (second_begun k w p h.0) in
      let none_open : list_any is_live kept ≡ false = sym (any_set is_live kept) ∙ ap (list_any is_live) (empty_is (items_of (set_of kept)) h.1) in
      or_nothing (list_any is_done rest) (list_any is_live kept) none_open (any_ended is_live refl refl rest ∙ begun)
    where
      or_nothing : (a b : Bool) → b ≡ false → a || b ≡ true → a ≡ true
      or_nothing true b m g = refl
      or_nothing false b m g = absurd (true≢false (sym g ∙ m))

  pub seq_told : Tells y e → Tells z e → Tells (seq y z) e
  seq_told k l w =
      let rest : List Plain = flat_map seq_rest (cuts w) in
      let kept : List Plain = filter is_open rest in
      node_tells (seq y z) (is_dead (tree_of y e w) && is_empty rest) (seq_parts (tree_of y e w) rest) refl
      (unless_both (is_dead (tree_of y e w)) (is_empty rest) (k w).partial
      (iff_trans (filled rest) (iff_trans (made_says passes_all seq_rest (cuts w) (λ c m. seq_says k passes_all c (live_listed (tree_of z e c.1) (l c.1)))) (joined_says w))))
      (λ p. same_test (ap (λ b. list_any is_done rest || b) (any_set (is_final z) kept) ∙ any_ended (is_final z) (never_dead z) (final_done z) rest)
      (iff_trans (made_says (is_final z) seq_rest (cuts w) (λ c m. seq_says k (is_final z) c (live_final z (tree_of z e c.1) (l c.1)))) (joined_says w)))
      (complete-partial (seq y z) e w)
      (λ p s. ap (λ b. b || list_any (is_final z) (items_of (set_of kept))) (some_done k l w p s))

  -- the pair of the trees of both parts
  abbrev pub par_pair : Word × Word → List Plain
  par_pair s = live_pair (tree_of y e s.0) (tree_of z e s.1)

  abbrev pair_final : Plain → Bool
  pair_final p = is_final y (first_part p) && is_final z (second_part p)

  par_says : Tells y e → Tells z e → (s : Word × Word) → (list_any passes_all (par_pair s) ≡ true) ↔ (IsPartial y e s.0 × IsPartial z e s.1)
  par_says k l s =
      let t : Plain = tree_of y e s.0 in
      let u : Plain = tree_of z e s.1 in
      iff_trans (when_passes passes_all (is_live t && is_live u) (pair_of t u ∷ []))
      (iff_trans (λ h. h.0, λ h. (h, refl)) (when_both (is_live t) (is_live u) (tree_live t (k s.0)) (tree_live u (l s.1))))

  par_final_says : Tells y e → Tells z e → (s : Word × Word) → (list_any pair_final (par_pair s) ≡ true) ↔ (IsComplete y e s.0 × IsComplete z e s.1)
  par_final_says k l s =
      let t : Plain = tree_of y e s.0 in
      let u : Plain = tree_of z e s.1 in
      iff_trans (when_passes pair_final (is_live t && is_live u) (pair_of t u ∷ []))
      (iff_trans
      (both_iff (when_both (is_live t) (is_live u) itself itself)
      (iff_trans (one_passes pair_final (pair_of t u)) (when_both (is_final y t) (is_final z u) itself itself)))
      (iff_trans (λ h. ((h.0.0, h.1.0), (h.0.1, h.1.1)), λ h. ((h.0.0, h.1.0), (h.0.1, h.1.1)))
      (both_iff (final_says y t (k s.0)) (final_says z u (l s.1)))))

  pub par_told : Tells y e → Tells z e → Tells (par y z) e
  par_told k l w =
      let pairs : List Plain = flat_map par_pair (splits w) in
      node_tells (par y z) (is_empty pairs) (par_tree (set_of pairs)) refl
      (iff_trans (filled pairs) (iff_trans (made_says passes_all par_pair (splits w) (λ s m. par_says k l s)) (split_says w)))
      (λ p. same_test (any_set pair_final pairs) (iff_trans (made_says pair_final par_pair (splits w) (λ s m. par_final_says k l s)) (split_says w)))
      (complete-partial (par y z) e w)
      (λ p s. only_pair_final y z (items_of (set_of pairs)) s)

  -- of a partial word a tree that is ended is final
  ended_final : {C P : Type 0} (x : Form) (t : Plain) → Told C P x t → P → is_ended t ≡ true → is_final x t ≡ true
  ended_final x t h p s = final_is_done x t (live_ended t ((live_says t).1 (h.partial.1 p)) s)

  pub or_told : Tells y e → Tells z e → Tells (or y z) e
  or_told k l w =
      node_tells (or y z) (is_dead (tree_of y e w) && is_dead (tree_of z e w)) (or_tree (tree_of y e w) (tree_of z e w)) refl
      (unless_both (is_dead (tree_of y e w)) (is_dead (tree_of z e w)) (k w).partial (l w).partial)
      (λ p. when_either (is_final y (tree_of y e w)) (is_final z (tree_of z e w)) (k w).complete (l w).complete)
      (complete-partial (or y z) e w)
      (λ p s. let h = (when_both (is_ended (tree_of y e w)) (is_ended (tree_of z e w)) itself itself).0 s in
      elim p [
        | inl q ↦ ap (λ b. b || is_final z (tree_of z e w)) (ended_final y (tree_of y e w) (k w) q h.0)
        | inr q ↦ ap (λ b. is_final y (tree_of y e w) || b) (ended_final z (tree_of z e w) (l w) q h.1) ∙ or_true (is_final y (tree_of y e w))
      ])

  pub and_told : Tells y e → Tells z e → Tells (and y z) e
  and_told k l w =
      node_tells (and y z) (is_dead (tree_of y e w) || is_dead (tree_of z e w)) (and_tree (tree_of y e w) (tree_of z e w)) refl
      (unless_either (is_dead (tree_of y e w)) (is_dead (tree_of z e w)) (k w).partial (l w).partial)
      (λ p. when_both (is_final y (tree_of y e w)) (is_final z (tree_of z e w)) (k w).complete (l w).complete)
      (complete-partial (and y z) e w)
      (λ p s. two_final y z (tree_of y e w) (tree_of z e w) s)

  pub couple_told : Tells y e → Tells z e → Tells (couple y z) e
  couple_told k l w =
      let u : Word = filter (in_alphabet y e) w in
      let v : Word = filter (in_alphabet z e) w in
      let inside : Bool = list_all (λ a. in_alphabet y e a || in_alphabet z e a) w in
      node_tells (couple y z) (not inside || (is_dead (tree_of y e u) || is_dead (tree_of z e v))) (couple_tree (tree_of y e u) (tree_of z e v)) refl
      (iff_trans
      (unless_either (not inside) (is_dead (tree_of y e u) || is_dead (tree_of z e v))
      (unless_not inside (all_are (λ a. in_alphabet y e a || in_alphabet z e a) (alphabet_says (couple y z) e) w))
      (unless_either (is_dead (tree_of y e u)) (is_dead (tree_of z e v))
      (iff_trans (k u).partial (projected_says (IsPartial y e) (in_alphabet y e) (alphabet_says y e) w))
      (iff_trans (l v).partial (projected_says (IsPartial z e) (in_alphabet z e) (alphabet_says z e) w))))
      (λ h. (h.0, h.1.0, h.1.1), λ h. (h.0, (h.1, h.2))))
      (λ p. iff_trans
      (when_both (is_final y (tree_of y e u)) (is_final z (tree_of z e v))
      (iff_trans (k u).complete (projected_says (IsComplete y e) (in_alphabet y e) (alphabet_says y e) w))
      (iff_trans (l v).complete (projected_says (IsComplete z e) (in_alphabet z e) (alphabet_says z e) w)))
      (λ h. (p.0, h.0, h.1), λ h. (h.1, h.2)))
      (complete-partial (couple y z) e w)
      (λ p s. two_final y z (tree_of y e u) (tree_of z e v) s)

-- the second of two facts may rest on the first
both_where : {A B C D : Type 0} → B ↔ C → (A → C ↔ D) → (A × B) ↔ (A × D)
both_where f g = (λ h. (h.0, (g h.0).0 (f.0 h.1)), λ h. (h.0, f.1 ((g h.0).1 h.1)))

-- Iterations

module _ (y : Form) (e : Environment) where
  -- the trees of what isn't empty behind a concatenation
  abbrev pub star_rest : Word × Word → List Plain
  star_rest c = when (not (is_empty c.1) && is_concatenation (λ u. is_final y (tree_of y e u)) c.0) (live (tree_of y e c.1))

  -- whether the word is a concatenation of complete words
  abbrev pub again : Word → Bool
  again w = is_concatenation (λ u. is_final y (tree_of y e u)) w

  pub again_says : Tells y e → (w : Word) → (again w ≡ true) ↔ Repeated (IsComplete y e) w
  again_says k w = concatenation_says (λ u. is_final y (tree_of y e u)) (λ u. (k u).complete) w

  star_says : Tells y e → (c : Word × Word) → (list_any passes_all (star_rest c) ≡ true) ↔ (Repeated (IsComplete y e) c.0 × (¬ (c.1 ≡ []) × IsPartial y e c.1))
  star_says k c = iff_trans
      (when_passes passes_all (not (is_empty c.1) && again c.0) (live (tree_of y e c.1)))
      (iff_trans
      (both_iff (when_both (not (is_empty c.1)) (again c.0) (when_not (is_empty c.1) (filled_says c.1)) (again_says k c.0)) (live_listed (tree_of y e c.1) (k c.1)))
      (λ h. (h.0.1, (h.0.0, h.1)), λ h. ((h.1.0, h.0), h.1.1)))

  whole_or_more : (w : Word) → (Repeated (IsComplete y e) w ⊎ Joined (Repeated (IsComplete y e)) (λ v. ¬ (v ≡ []) × IsPartial y e v) w) ↔ Joined (Repeated (IsComplete y e)) (IsPartial y e) w
  whole_or_more w = (
    λ h. elim h [
      | inl r ↦ record { front = w; back = []; whole = sym (append-nil w); front_has = r; back_has = empty-partial y e }
      | inr j ↦ record { front = j.front; back = j.back; whole = j.whole; front_has = j.front_has; back_has = j.back_has.1 }
    ],
    λ j. from j.front j.back j.whole j.front_has j.back_has,
  )
    where
      from : (u v : Word) → w ≡ u ++ v → Repeated (IsComplete y e) u → IsPartial y e v → Repeated (IsComplete y e) w ⊎ Joined (Repeated (IsComplete y e)) (λ x. ¬ (x ≡ []) × IsPartial y e x) w
      from u [] m r p = inl (subst (Repeated (IsComplete y e)) (sym (append-nil u) ∙ sym m) r)
      from u (a ∷ v) m r p = inr (record { front = u; back = a ∷ v; whole = m; front_has = r; back_has = (λ n. cc, p) })

  pub star_told : Tells y e → Tells (star y) e
  star_told k w =
      let rest : List Plain = flat_map star_rest (cuts w) in
      node_tells (star y) (not (again w) && is_empty rest) (star_tree (again w) (set_of (filter is_open rest))) refl
      (iff_trans
      (unless_both (not (again w)) (is_empty rest) (unless_not (again w) (again_says k w))
      (iff_trans (filled rest) (iff_trans (made_says passes_all star_rest (cuts w) (λ c m. star_says k c)) (joined_says w))))
      (whole_or_more w))
      (λ p. again_says k w)
      (complete-partial (star y) e w)
      (λ p s. absurd (true≢false (sym s)))

  -- the bag of the trees of the parts
  abbrev pub par_star_bag : Word → List ℕ → List Plain
  par_star_bag w owners = live_bag (map (tree_of y e) (nonempty_parts owners w))

  abbrev bag_final : Plain → Bool
  bag_final b = list_all (is_final y) (items_of (first_part b))

  bag_says : Tells y e → (w : Word) (owners : List ℕ) → (list_any passes_all (par_star_bag w owners) ≡ true) ↔ Each (IsPartial y e) (nonempty_parts owners w)
  bag_says k w owners =
      let trees : List Plain = map (tree_of y e) (nonempty_parts owners w) in
      iff_trans (when_passes passes_all (list_all is_live trees) (bag_of (listed (sorted (filter is_open trees))) ∷ []))
      (iff_trans (λ h. h.0, λ h. (h, refl)) (all_map is_live (tree_of y e) (nonempty_parts owners w) (λ u m. tree_live (tree_of y e u) (k u))))

  bag_final_says : Tells y e → (w : Word) (owners : List ℕ) → (list_any bag_final (par_star_bag w owners) ≡ true) ↔ Each (IsComplete y e) (nonempty_parts owners w)
  bag_final_says k w owners =
      let parts : List Word = nonempty_parts owners w in
      let trees : List Plain = map (tree_of y e) parts in
      let kept : List Plain = filter is_open trees in
      iff_trans (when_passes bag_final (list_all is_live trees) (bag_of (listed (sorted kept)) ∷ []))
      (iff_trans
      (both_where (iff_trans (one_passes bag_final (bag_of (listed (sorted kept)))) (same_test (all_sorted (is_final y) kept) itself))
      (λ lives. same_test (all_open (is_final y) (final_done y) trees lives) (all_map (is_final y) (tree_of y e) parts (λ u m. (k u).complete))))
      (iff_trans (both_iff (all_map is_live (tree_of y e) parts (λ u m. tree_live (tree_of y e u) (k u))) itself)
      (λ h. h.1, λ h. (Each-weaker (λ u c. complete-partial y e u c) h, h))))

  pub par_star_told : Tells y e → Tells (par_star y) e
  par_star_told k w =
      let bags : List Plain = flat_map (par_star_bag w) (numberings w) in
      node_tells (par_star y) (is_empty bags) (par_star_tree (set_of bags)) refl
      (iff_trans (filled bags) (iff_trans (made_says passes_all (par_star_bag w) (numberings w) (λ owners m. bag_says k w owners)) (numbered_says w)))
      (λ p. same_test (any_set bag_final bags) (iff_trans (made_says bag_final (par_star_bag w) (numberings w) (λ owners m. bag_final_says k w owners)) (numbered_says w)))
      (complete-partial (par_star y) e w)
      (λ p s. absurd (true≢false (sym s)))
