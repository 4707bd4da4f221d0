-- The moved trees of `+` and `#`: where the trees of the operands move to those of the longer words, so do their own.
use Rattle.std.proofs.Common.{◌≡◌, ◌⊎◌, inl, inr, Bool, true, false, ◌&&◌, List, [], ◌∷◌, ◌++◌, map, flat_map, filter, cond, append_assoc, refl, sym, ap, ap₂, ◌∙◌, subst, true≢false, if◌then◌else◌}
use Rattle.std.specs.List.{list_all}
use Rattle.ix_words.specs.Each.{Each, item, Member}
use Rattle.ix_words.specs.Canon.{SameMembers, when, splits, give_end}
use Rattle.ix_words.proofs.Each.{Each-head, Each-tail, Member-left, Member-right, Member-either}
use Rattle.ix_words.proofs.Canon.{Member-cases, Member-same, Member-when, when-Member, Member-flat_map, flat_map-Member, SameMembers-refl, SameMembers-sym, SameMembers-trans, SameMembers-eq, SameMembers-flat_map, flat_map-flat_map}
use Rattle.ix_words.proofs.Ways.{splits-end}
use Rattle.ix_values.specs.PlainAction.{PlainAction, Word}
use Rattle.ix_expr.specs.Form.{Form, par, par_star}
use Rattle.ix_expr.specs.Environment.{Environment}
use Rattle.ix_expr.proofs.LawsOfMeaning.{prefix-partial}
use Rattle.ix_tree.specs.Plain.{Plain, par as par_of, par_star as par_star_of, pair as pair_of, bag as bag_of}
use Rattle.ix_tree.specs.Order.{first_part, second_part}
use Rattle.ix_can.specs.Ways.{is_empty, numberings, nonempty_parts}
use Rattle.ix_can.specs.Nodes.{is_live, is_open, listed, items_of, set_of, put_in, sorted}
use Rattle.ix_can.specs.TreeOf.{tree_of}
use Rattle.ix_can.specs.inside.Moved.{moved, picks, put_unless_done, bag_with, Moves}
use Rattle.ix_can.proofs.Lists.{all_to, all_from}
use Rattle.ix_can.proofs.Spent.{Kind, is_the_dead, is_the_done, stays_open, kind, open_before}
use Rattle.ix_can.proofs.Nodes.{tree_live, items_listed}
use Rattle.ix_can.proofs.OperatorsTell.{Tells, par_told, par_star_told, par_pair, par_star_bag}
use Rattle.ix_can.proofs.MayTell.{Begins, MayTells, par_may, par_star_may}
use Rattle.ix_can.proofs.Agreeing.{empty_tree}
use Rattle.ix_can.proofs.Proper.{sorted_rises}
use Rattle.ix_can.proofs.MovesShared.{node_moves, set_same, set_flat_map, set_made}
use Rattle.ix_can.proofs.Bags.{unmoved, Reordered-sym, Reordered-map, Reordered-filter, Each-reordered, Each-taken, taken_along, map_taken, taken_kept, picks_taken, sorted_same, sorted_reordered, rising_taken, rising_sorted, picks_put}
use Rattle.ix_can.proofs.Numberings.{IsParted, piece_begun, piece_grown, Began, Grew, parted_end}

-- the tree of a front is live where that of the whole is
pub front_live : (y : Form) (e : Environment) → Tells y e → (u v : Word) → is_live (tree_of y e (u ++ v)) ≡ true → is_live (tree_of y e u) ≡ true
front_live y e k u v h = (tree_live (tree_of y e u) (k u)).1 (prefix-partial y e u v ((tree_live (tree_of y e (u ++ v)) (k (u ++ v))).0 h))

-- what is made of one item that is listed where both tests hold
made_of_both : {X Y : Type 0} (f : X → List Y) (x : X) (b c d g : Bool) (u v : List Y) → f x ≡ when d u ++ when g v → (d ≡ true → b ≡ true) → (g ≡ true → c ≡ true) → flat_map f (when (b && c) (x ∷ [])) ≡ when (d && c) u ++ (when (b && g) v ++ [])
made_of_both f x true true true g u v e h k = ap (λ z. z ++ []) e ∙ append_assoc u (when g v) []
made_of_both f x true true false g u v e h k = ap (λ z. z ++ []) e
made_of_both f x true false d true u v e h k = absurd (true≢false (sym (k refl)))
made_of_both f x true false true false u v e h k = refl
made_of_both f x true false false false u v e h k = refl
made_of_both f x false c true g u v e h k = absurd (true≢false (sym (h refl)))
made_of_both f x false c false g u v e h k = refl

module _ (y z : Form) (e : Environment) (a : PlainAction) where
  -- the pairs in which one of both trees has moved
  abbrev moved_pairs : Plain → List Plain
  moved_pairs p =
      when (is_live (moved y e (first_part p) a)) (pair_of (moved y e (first_part p) a) (second_part p) ∷ [])
      ++ when (is_live (moved z e (second_part p) a)) (pair_of (first_part p) (moved z e (second_part p) a) ∷ [])

  pair_moves : Tells y e → Tells z e → Moves y e a → Moves z e a → (s : Word × Word) → flat_map moved_pairs (par_pair y z e s) ≡ flat_map (par_pair y z e) (give_end a s)
  pair_moves k l f g s =
      let t : Plain = tree_of y e s.0 in
      let u : Plain = tree_of z e s.1 in
      let t' : Plain = tree_of y e (s.0 ++ a ∷ []) in
      let u' : Plain = tree_of z e (s.1 ++ a ∷ []) in
      made_of_both moved_pairs (pair_of t u) (is_live t) (is_live u) (is_live t') (is_live u') (pair_of t' u ∷ []) (pair_of t u' ∷ [])
      (ap₂ (λ x v. when (is_live x) (pair_of x u ∷ []) ++ when (is_live v) (pair_of t v ∷ [])) (f s.0) (g s.1))
      (front_live y e k s.0 (a ∷ [])) (front_live z e l s.1 (a ∷ []))

  pairs_move : Tells y e → Tells z e → Moves y e a → Moves z e a → (w : Word) → SameMembers (flat_map moved_pairs (items_of (set_of (flat_map (par_pair y z e) (splits w))))) (flat_map (par_pair y z e) (splits (w ++ a ∷ [])))
  pairs_move k l f g w =
      SameMembers-trans
      (set_made moved_pairs (par_pair y z e) (splits w))
      (SameMembers-trans
      (SameMembers-flat_map (λ s. flat_map moved_pairs (par_pair y z e s)) (λ s. flat_map (par_pair y z e) (give_end a s)) (SameMembers-refl (splits w)) (λ s m. SameMembers-eq (pair_moves k l f g s)))
      (SameMembers-trans
      (SameMembers-eq (sym (flat_map-flat_map (give_end a) (par_pair y z e) (splits w))))
      (SameMembers-flat_map (par_pair y z e) (par_pair y z e) (SameMembers-sym (splits-end w a)) (λ s m. SameMembers-refl (par_pair y z e s)))))

  pub par_moves : Tells y e → Tells z e → MayTells a y e → MayTells a z e → Moves y e a → Moves z e a → Moves (par y z) e a
  par_moves k l m n f g w =
      let pairs : List Plain = flat_map (par_pair y z e) (splits w) in
      let next : List Plain = flat_map (par_pair y z e) (splits (w ++ a ∷ [])) in
      let moves : List Plain = flat_map moved_pairs (items_of (set_of pairs)) in
      node_moves (par y z) e a (is_empty pairs) (is_empty next) (par_of (set_of pairs)) (par_of (set_of next)) (par_of (set_of moves)) refl
      (par_may a y z e k l m n w) refl (par_told y z e k l (w ++ a ∷ [])).partial
      (λ b p. ap par_of (set_same moves next (pairs_move k l f g w)))

-- a live tree put among the sorted open ones is sorted with them, or left out with those that are done
put_kept : (x : Plain) (xs : List Plain) → is_live x ≡ true → put_unless_done x (sorted (filter is_open xs)) ≡ sorted (filter is_open (x ∷ xs))
put_kept x xs l = chosen (kind x)
  where
    chosen : Kind x → put_unless_done x (sorted (filter is_open xs)) ≡ sorted (cond (is_open x) (x ∷ filter is_open xs) (filter is_open xs))
    chosen (is_the_dead e) = absurd (true≢false (sym l ∙ ap is_live e))
    chosen (is_the_done e) =
        ap (λ z. put_unless_done z (sorted (filter is_open xs))) e
        ∙ sym (ap (λ z. sorted (cond (is_open z) (z ∷ filter is_open xs) (filter is_open xs))) e)
    chosen (stays_open o h m) =
        ap (λ b. if b then sorted (filter is_open xs) else put_in x (sorted (filter is_open xs))) m
        ∙ sym (ap (λ b. sorted (cond b (x ∷ filter is_open xs) (filter is_open xs))) o)

module _ (y : Form) (e : Environment) where
  abbrev IsLive : Plain → Type 0
  IsLive t = is_live t ≡ true

  -- the bag of the open trees of pieces of the word, all of which are live
  record Bagged (w : Word) (b : Plain) : Type 0 where
    pieces : List Word
    parted : IsParted w pieces
    lives : Each IsLive (map (tree_of y e) pieces)
    is_bag : b ≡ bag_of (listed (sorted (filter is_open (map (tree_of y e) pieces))))

  bagged_to : (w : Word) (b : Plain) → Member b (flat_map (par_star_bag y e w) (numberings w)) → Bagged w b
  bagged_to w b m =
      let k = Member-flat_map (par_star_bag y e w) (numberings w) m in
      let trees : List Plain = map (tree_of y e) (nonempty_parts k.0 w) in
      let j = Member-when (list_all is_live trees) (bag_of (listed (sorted (filter is_open trees))) ∷ []) k.2 in
      record {
        pieces = nonempty_parts k.0 w;
        parted = record { owners = k.0; among = k.1; same = unmoved };
        lives = all_to is_live trees j.0;
        is_bag = elim (Member-cases j.1) [ inl same ↦ same | inr n ↦ elim n [ ] ];
      }

  bagged_from : (w : Word) (b : Plain) → Bagged w b → Member b (flat_map (par_star_bag y e w) (numberings w))
  bagged_from w b h =
      let r = Reordered-map (tree_of y e) h.parted.same in
      flat_map-Member (par_star_bag y e w) h.parted.among
      (when-Member (all_from is_live (Each-reordered (Reordered-sym r) h.lives))
      (Member-same [] (h.is_bag ∙ ap (λ ts. bag_of (listed ts)) (sym (sorted_same (Reordered-filter is_open r))))))

  module _ (a : PlainAction) where
    -- the bags in which one of the trees has moved, and the one with one more tree
    abbrev moved_trees : List Plain → List Plain
    moved_trees ts = flat_map (λ p. bag_with (moved y e p.0 a) p.1) (picks ts) ++ bag_with (moved y e (tree_of y [] []) a) ts

    abbrev moved_bags : Plain → List Plain
    moved_bags b = moved_trees (items_of (first_part b))

    bag_with_is : (x : Plain) (others : List Plain) {c : Plain} → Member c (bag_with x others) → IsLive x × (c ≡ bag_of (listed (put_unless_done x others)))
    bag_with_is x others m =
        let k = Member-when (is_live x) (bag_of (listed (put_unless_done x others)) ∷ []) m in
        (k.0, elim (Member-cases k.1) [ inl e ↦ e | inr n ↦ elim n [ ] ])

    bag_with_has : (x : Plain) (others : List Plain) {c : Plain} → IsLive x → c ≡ bag_of (listed (put_unless_done x others)) → Member c (bag_with x others)
    bag_with_has x others l e = when-Member l (Member-same [] e)

    begin_moves : Moves y e a → moved y e (tree_of y [] []) a ≡ tree_of y e (a ∷ [])
    begin_moves f = ap (λ t. moved y e t a) (empty_tree y [] e) ∙ f []

    picked_bagged : Moves y e a → (w : Word) (pieces : List Word) → IsParted w pieces → Each IsLive (map (tree_of y e) pieces) → (p : Plain × List Plain) → Member p (picks (sorted (filter is_open (map (tree_of y e) pieces)))) → (c : Plain) → Member c (bag_with (moved y e p.0 a) p.1) → Bagged (w ++ a ∷ []) c
    picked_bagged f w pieces h lives p m c n =
        let trees : List Plain = map (tree_of y e) pieces in
        let kept : List Plain = filter is_open trees in
        let t = picks_taken (sorted kept) p m in
        let j = taken_along (sorted_reordered kept) t in
        let k = taken_kept (tree_of y e) is_open pieces p.0 j.0 j.1 in
        let others : p.1 ≡ sorted (filter is_open (map (tree_of y e) k.1)) = sym (rising_sorted p.1 (rising_taken t (sorted_rises kept))) ∙ sorted_same j.2 ∙ ap sorted k.4 in
        let moves : moved y e p.0 a ≡ tree_of y e (k.0 ++ a ∷ []) = ap (λ x. moved y e x a) k.3 ∙ f k.0 in
        let b = bag_with_is (moved y e p.0 a) p.1 n in
        record {
          pieces = (k.0 ++ a ∷ []) ∷ k.1;
          parted = piece_grown w a h k.2;
          lives = item (subst IsLive moves b.0) (Each-taken (map_taken (tree_of y e) k.2) lives);
          is_bag = b.1 ∙ ap₂ (λ x xs. bag_of (listed (put_unless_done x xs))) moves others ∙ ap (λ xs. bag_of (listed xs)) (put_kept (tree_of y e (k.0 ++ a ∷ [])) (map (tree_of y e) k.1) (subst IsLive moves b.0));
        }

    begun_bagged : Moves y e a → (w : Word) (pieces : List Word) → IsParted w pieces → Each IsLive (map (tree_of y e) pieces) → (c : Plain) → Member c (bag_with (moved y e (tree_of y [] []) a) (sorted (filter is_open (map (tree_of y e) pieces)))) → Bagged (w ++ a ∷ []) c
    begun_bagged f w pieces h lives c n =
        let trees : List Plain = map (tree_of y e) pieces in
        let b = bag_with_is (moved y e (tree_of y [] []) a) (sorted (filter is_open trees)) n in
        let one_live : IsLive (tree_of y e (a ∷ [])) = subst IsLive (begin_moves f) b.0 in
        record {
          pieces = (a ∷ []) ∷ pieces;
          parted = piece_begun w a h;
          lives = item one_live lives;
          is_bag = b.1 ∙ ap (λ x. bag_of (listed (put_unless_done x (sorted (filter is_open trees))))) (begin_moves f) ∙ ap (λ xs. bag_of (listed xs)) (put_kept (tree_of y e (a ∷ [])) trees one_live);
        }

    bags_to : Moves y e a → (w : Word) (c : Plain) → Member c (flat_map moved_bags (flat_map (par_star_bag y e w) (numberings w))) → Bagged (w ++ a ∷ []) c
    bags_to f w c m =
        let k = Member-flat_map moved_bags (flat_map (par_star_bag y e w) (numberings w)) m in
        let h = bagged_to w k.0 k.1 in
        let trees : List Plain = sorted (filter is_open (map (tree_of y e) h.pieces)) in
        let n : Member c (moved_trees trees) = subst (λ ts. Member c (moved_trees ts)) (ap (λ b. items_of (first_part b)) h.is_bag ∙ items_listed trees) k.2 in
        elim (Member-either (flat_map (λ p. bag_with (moved y e p.0 a) p.1) (picks trees)) (bag_with (moved y e (tree_of y [] []) a) trees) n) [
          | inl l ↦
              let j = Member-flat_map (λ (p : Plain × List Plain). bag_with (moved y e p.0 a) p.1) (picks trees) l in
              picked_bagged f w h.pieces h.parted h.lives j.0 j.1 c j.2
          | inr r ↦ begun_bagged f w h.pieces h.parted h.lives c r
        ]

    -- a bag of trees of pieces, and a bag that it moves to
    moved_among : (w : Word) (pieces : List Word) → IsParted w pieces → Each IsLive (map (tree_of y e) pieces) → (c : Plain) → Member c (moved_trees (sorted (filter is_open (map (tree_of y e) pieces)))) → Member c (flat_map moved_bags (flat_map (par_star_bag y e w) (numberings w)))
    moved_among w pieces h lives c m =
        let trees : List Plain = sorted (filter is_open (map (tree_of y e) pieces)) in
        flat_map-Member moved_bags
        (bagged_from w (bag_of (listed trees)) (record { pieces = pieces; parted = h; lives = lives; is_bag = refl }))
        (subst (λ ts. Member c (moved_trees ts)) (sym (items_listed trees)) m)

    bags_from : Tells y e → Moves y e a → (w : Word) (c : Plain) → Bagged (w ++ a ∷ []) c → Member c (flat_map moved_bags (flat_map (par_star_bag y e w) (numberings w)))
    bags_from k f w c h = from (parted_end w a h.parted)
      where
        from : Began w a h.pieces ⊎ Grew w a h.pieces → Member c (flat_map moved_bags (flat_map (par_star_bag y e w) (numberings w)))
        from (inl b) =
            let r = Reordered-map (tree_of y e) b.same in
            let lives : Each IsLive (map (tree_of y e) ((a ∷ []) ∷ b.rest)) = Each-reordered r h.lives in
            let trees : List Plain = sorted (filter is_open (map (tree_of y e) b.rest)) in
            let is_bag : c ≡ bag_of (listed (put_unless_done (tree_of y e (a ∷ [])) trees)) = h.is_bag ∙ ap (λ ts. bag_of (listed ts)) (sorted_same (Reordered-filter is_open r) ∙ sym (put_kept (tree_of y e (a ∷ [])) (map (tree_of y e) b.rest) (Each-head lives))) in
            moved_among w b.rest b.parted (Each-tail lives) c
            (Member-right (flat_map (λ p. bag_with (moved y e p.0 a) p.1) (picks trees))
            (subst (λ x. Member c (bag_with x trees)) (sym (begin_moves f)) (bag_with_has (tree_of y e (a ∷ [])) trees (Each-head lives) is_bag)))
        from (inr g) =
            let r = Reordered-map (tree_of y e) g.same in
            let lives : Each IsLive (map (tree_of y e) ((g.piece ++ a ∷ []) ∷ g.rest)) = Each-reordered r h.lives in
            let kept : List Plain = filter is_open (map (tree_of y e) g.rest) in
            let trees : List Plain = sorted kept in
            let one : Plain = tree_of y e g.piece in
            let is_bag : c ≡ bag_of (listed (put_unless_done (tree_of y e (g.piece ++ a ∷ [])) trees)) = h.is_bag ∙ ap (λ ts. bag_of (listed ts)) (sorted_same (Reordered-filter is_open r) ∙ sym (put_kept (tree_of y e (g.piece ++ a ∷ [])) (map (tree_of y e) g.rest) (Each-head lives))) in
            let all_trees : put_in one trees ≡ sorted (filter is_open (map (tree_of y e) (g.piece ∷ g.rest))) = ap (λ b. sorted (cond b (one ∷ kept) kept)) (sym (open_before y e one a (subst IsLive (sym (f g.piece)) (Each-head lives)))) in
            moved_among w (g.piece ∷ g.rest) g.parted (item (front_live y e k g.piece (a ∷ []) (Each-head lives)) (Each-tail lives)) c
            (subst (λ ts. Member c (moved_trees ts)) all_trees
            (Member-left
            (flat_map-Member (λ (p : Plain × List Plain). bag_with (moved y e p.0 a) p.1) (picks_put one trees)
            (subst (λ x. Member c (bag_with x trees)) (sym (f g.piece)) (bag_with_has (tree_of y e (g.piece ++ a ∷ [])) trees (Each-head lives) is_bag)))
            (bag_with (moved y e (tree_of y [] []) a) (put_in one trees))))

    bags_move : Tells y e → Moves y e a → (w : Word) → SameMembers (flat_map moved_bags (items_of (set_of (flat_map (par_star_bag y e w) (numberings w))))) (flat_map (par_star_bag y e (w ++ a ∷ [])) (numberings (w ++ a ∷ [])))
    bags_move k f w = SameMembers-trans
        (set_flat_map moved_bags (flat_map (par_star_bag y e w) (numberings w)))
        (record {
          to = λ c m. bagged_from (w ++ a ∷ []) c (bags_to f w c m);
          from = λ c m. bags_from k f w c (bagged_to (w ++ a ∷ []) c m);
        })

    pub par_star_moves : Tells y e → Begins a y e → MayTells a y e → Moves y e a → Moves (par_star y) e a
    par_star_moves k b m f w =
        let bags : List Plain = flat_map (par_star_bag y e w) (numberings w) in
        let next : List Plain = flat_map (par_star_bag y e (w ++ a ∷ [])) (numberings (w ++ a ∷ [])) in
        let moves : List Plain = flat_map moved_bags (items_of (set_of bags)) in
        node_moves (par_star y) e a (is_empty bags) (is_empty next) (par_star_of (set_of bags)) (par_star_of (set_of next)) (par_star_of (set_of moves)) refl
        (par_star_may a y e k b m w) refl (par_star_told y e k (w ++ a ∷ [])).partial
        (λ c p. ap par_star_of (set_same moves next (bags_move k f w)))
