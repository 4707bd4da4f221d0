-- The moved bags of `times`: where the trees of the operand move to those of the longer words, so do the bags.
use Rattle.std.proofs.Common.{◌≡◌, ◌⊎◌, inl, inr, ℕ, ◌<◌, true, List, [], ◌∷◌, ◌++◌, map, flat_map, length, nat_lt, refl, sym, ap, ap₂, ◌∙◌, subst, arith, ltb-true, lt-ltb}
use Rattle.std.specs.List.{list_all}
use Rattle.std.proofs.lemmas.List.{length-map}
use Rattle.ix_words.specs.Each.{Each, item, Member}
use Rattle.ix_words.specs.Canon.{SameMembers, when}
use Rattle.ix_words.proofs.Each.{Each-head, Each-tail, Member-left, Member-right, Member-either}
use Rattle.ix_words.proofs.Canon.{Member-cases, Member-same, Member-when, when-Member, Member-flat_map, flat_map-Member, SameMembers-trans}
use Rattle.ix_values.specs.PlainAction.{PlainAction, Word}
use Rattle.ix_expr.specs.Form.{Form, times}
use Rattle.ix_expr.specs.Environment.{Environment}
use Rattle.ix_tree.specs.Plain.{Plain, bag as bag_of, times as times_of}
use Rattle.ix_tree.specs.Order.{first_part}
use Rattle.ix_can.specs.Ways.{is_empty, numbers_below, sharings, parts_below}
use Rattle.ix_can.specs.Nodes.{is_live, listed, items_of, set_of, put_in, sorted, only_bag_done}
use Rattle.ix_can.specs.TreeOf.{tree_of}
use Rattle.ix_can.specs.inside.Moved.{moved, picks, keep_with, Moves}
use Rattle.ix_can.proofs.Lists.{all_to, all_from}
use Rattle.ix_can.proofs.Nodes.{items_listed}
use Rattle.ix_can.proofs.OperatorsTell.{Tells}
use Rattle.ix_can.proofs.Agreeing.{empty_tree}
use Rattle.ix_can.proofs.Proper.{sorted_rises}
use Rattle.ix_can.proofs.MovesShared.{either_moves, set_same, set_flat_map}
use Rattle.ix_can.proofs.Bags.{Reordered-sym, Reordered-map, Each-reordered, Each-taken, taken_along, map_taken, taken_map, picks_taken, sorted_same, sorted_reordered, rising_taken, rising_sorted, picks_put}
use Rattle.ix_can.proofs.Numberings.{distinct_below}
use Rattle.ix_can.proofs.Sharings.{numbers_count, same_length, sharing_among, IsShared, pieces_are, shared_begun, shared_grown, Began, Grew, shared_end}
use Rattle.ix_can.proofs.Spent.{full_may}
use Rattle.ix_can.proofs.MayTell.{Begins, MayTells}
use Rattle.ix_can.proofs.TimesTell.{times_bag, times_told}
use Rattle.ix_can.proofs.TimesMay.{times_may}
use Rattle.ix_can.proofs.MovesParallel.{front_live}

module _ (y : Form) (e : Environment) (n : ℕ) where
  abbrev IsLive : Plain → Type 0
  IsLive t = is_live t ≡ true

  -- the bag of the trees of pieces of the word, all of which are live
  record Bagged (w : Word) (b : Plain) : Type 0 where
    pieces : List Word
    shared : IsShared (numbers_below n) w pieces
    lives : Each IsLive (map (tree_of y e) pieces)
    is_bag : b ≡ bag_of (listed (sorted (map (tree_of y e) pieces)))

  bagged_to : (w : Word) (b : Plain) → Member b (flat_map (times_bag y e n w) (sharings n w)) → Bagged w b
  bagged_to w b m =
      let k = Member-flat_map (times_bag y e n w) (sharings n w) m in
      let trees : List Plain = map (tree_of y e) (parts_below n k.0 w) in
      let j = Member-when (list_all is_live trees) (bag_of (listed (sorted trees)) ∷ []) k.2 in
      record {
        pieces = parts_below n k.0 w;
        shared = pieces_are n w k.0 k.1;
        lives = all_to is_live trees j.0;
        is_bag = elim (Member-cases j.1) [ inl same ↦ same | inr n ↦ elim n [ ] ];
      }

  bagged_from : (w : Word) (b : Plain) → Bagged w b → Member b (flat_map (times_bag y e n w) (sharings n w))
  bagged_from w b h =
      let r = Reordered-map (tree_of y e) h.shared.same in
      flat_map-Member (times_bag y e n w) (sharing_among n w h.shared.owners h.shared.long h.shared.among)
      (when-Member (all_from is_live (Each-reordered (Reordered-sym r) h.lives))
      (Member-same [] (h.is_bag ∙ ap (λ ts. bag_of (listed ts)) (sym (sorted_same r)))))

  -- a bag has as many trees as there are pieces
  pieces_count : (pieces : List Word) → length (sorted (map (tree_of y e) pieces)) ≡ length pieces
  pieces_count pieces = same_length (sorted_reordered (map (tree_of y e) pieces)) ∙ length-map pieces (tree_of y e)

  module _ (a : PlainAction) where
    -- the bags in which one of the trees has moved, and the one with one more tree where there are fewer than n
    abbrev pub moved_trees : List Plain → List Plain
    moved_trees ts =
        flat_map (λ p. keep_with (moved y e p.0 a) p.1) (picks ts)
        ++ when (nat_lt (length ts) n) (keep_with (moved y e (tree_of y [] []) a) ts)

    abbrev pub moved_bags : Plain → List Plain
    moved_bags b = moved_trees (items_of (first_part b))

    keep_with_is : (x : Plain) (others : List Plain) {c : Plain} → Member c (keep_with x others) → IsLive x × (c ≡ bag_of (listed (put_in x others)))
    keep_with_is x others m =
        let k = Member-when (is_live x) (bag_of (listed (put_in x others)) ∷ []) m in
        (k.0, elim (Member-cases k.1) [ inl e ↦ e | inr n ↦ elim n [ ] ])

    keep_with_has : (x : Plain) (others : List Plain) {c : Plain} → IsLive x → c ≡ bag_of (listed (put_in x others)) → Member c (keep_with x others)
    keep_with_has x others l e = when-Member l (Member-same [] e)

    begin_moves : Moves y e a → moved y e (tree_of y [] []) a ≡ tree_of y e (a ∷ [])
    begin_moves f = ap (λ t. moved y e t a) (empty_tree y [] e) ∙ f []

    picked_bagged : Moves y e a → (w : Word) (pieces : List Word) → IsShared (numbers_below n) w pieces → Each IsLive (map (tree_of y e) pieces) → (p : Plain × List Plain) → Member p (picks (sorted (map (tree_of y e) pieces))) → (c : Plain) → Member c (keep_with (moved y e p.0 a) p.1) → Bagged (w ++ a ∷ []) c
    picked_bagged f w pieces h lives p m c i =
        let trees : List Plain = map (tree_of y e) pieces in
        let t = picks_taken (sorted trees) p m in
        let j = taken_along (sorted_reordered trees) t in
        let k = taken_map (tree_of y e) pieces p.0 j.0 j.1 in
        let others : p.1 ≡ sorted (map (tree_of y e) k.1) = sym (rising_sorted p.1 (rising_taken t (sorted_rises trees))) ∙ sorted_same j.2 ∙ ap sorted k.4 in
        let moves : moved y e p.0 a ≡ tree_of y e (k.0 ++ a ∷ []) = ap (λ x. moved y e x a) k.3 ∙ f k.0 in
        let b = keep_with_is (moved y e p.0 a) p.1 i in
        record {
          pieces = (k.0 ++ a ∷ []) ∷ k.1;
          shared = shared_grown w a (distinct_below n) h k.2;
          lives = item (subst IsLive moves b.0) (Each-taken (map_taken (tree_of y e) k.2) lives);
          is_bag = b.1 ∙ ap₂ (λ x xs. bag_of (listed (put_in x xs))) moves others;
        }

    begun_bagged : Moves y e a → (w : Word) (pieces : List Word) → IsShared (numbers_below n) w pieces → Each IsLive (map (tree_of y e) pieces) → length (sorted (map (tree_of y e) pieces)) < n → (c : Plain) → Member c (keep_with (moved y e (tree_of y [] []) a) (sorted (map (tree_of y e) pieces))) → Bagged (w ++ a ∷ []) c
    begun_bagged f w pieces h lives room c i =
        let trees : List Plain = sorted (map (tree_of y e) pieces) in
        let b = keep_with_is (moved y e (tree_of y [] []) a) trees i in
        let count : length trees ≡ length pieces = pieces_count pieces in
        let all : length (numbers_below n) ≡ n = numbers_count n in
        record {
          pieces = (a ∷ []) ∷ pieces;
          shared = shared_begun w a (distinct_below n) h (omega arith);
          lives = item (subst IsLive (begin_moves f) b.0) lives;
          is_bag = b.1 ∙ ap (λ x. bag_of (listed (put_in x trees))) (begin_moves f);
        }

    bags_to : Moves y e a → (w : Word) (c : Plain) → Member c (flat_map moved_bags (flat_map (times_bag y e n w) (sharings n w))) → Bagged (w ++ a ∷ []) c
    bags_to f w c m =
        let k = Member-flat_map moved_bags (flat_map (times_bag y e n w) (sharings n w)) m in
        let h = bagged_to w k.0 k.1 in
        let trees : List Plain = sorted (map (tree_of y e) h.pieces) in
        let i : Member c (moved_trees trees) = subst (λ ts. Member c (moved_trees ts)) (ap (λ b. items_of (first_part b)) h.is_bag ∙ items_listed trees) k.2 in
        elim (Member-either (flat_map (λ p. keep_with (moved y e p.0 a) p.1) (picks trees)) (when (nat_lt (length trees) n) (keep_with (moved y e (tree_of y [] []) a) trees)) i) [
          | inl l ↦
              let j = Member-flat_map (λ (p : Plain × List Plain). keep_with (moved y e p.0 a) p.1) (picks trees) l in
              picked_bagged f w h.pieces h.shared h.lives j.0 j.1 c j.2
          | inr r ↦
              let j = Member-when (nat_lt (length trees) n) (keep_with (moved y e (tree_of y [] []) a) trees) r in
              begun_bagged f w h.pieces h.shared h.lives (ltb-true (length trees) n j.0) c j.1
        ]

    -- a bag of trees of pieces, and a bag that it moves to
    moved_among : (w : Word) (pieces : List Word) → IsShared (numbers_below n) w pieces → Each IsLive (map (tree_of y e) pieces) → (c : Plain) → Member c (moved_trees (sorted (map (tree_of y e) pieces))) → Member c (flat_map moved_bags (flat_map (times_bag y e n w) (sharings n w)))
    moved_among w pieces h lives c m =
        let trees : List Plain = sorted (map (tree_of y e) pieces) in
        flat_map-Member moved_bags
        (bagged_from w (bag_of (listed trees)) (record { pieces = pieces; shared = h; lives = lives; is_bag = refl }))
        (subst (λ ts. Member c (moved_trees ts)) (sym (items_listed trees)) m)

    bags_from : Tells y e → Moves y e a → (w : Word) (c : Plain) → Bagged (w ++ a ∷ []) c → Member c (flat_map moved_bags (flat_map (times_bag y e n w) (sharings n w)))
    bags_from k f w c h = from (shared_end w a (distinct_below n) h.shared)
      where
        from : Began (numbers_below n) w a h.pieces ⊎ Grew (numbers_below n) w a h.pieces → Member c (flat_map moved_bags (flat_map (times_bag y e n w) (sharings n w)))
        from (inl b) =
            let r = Reordered-map (tree_of y e) b.same in
            let lives : Each IsLive (map (tree_of y e) ((a ∷ []) ∷ b.rest)) = Each-reordered r h.lives in
            let trees : List Plain = sorted (map (tree_of y e) b.rest) in
            let count : length trees ≡ length b.rest = pieces_count b.rest in
            let all : length (numbers_below n) ≡ n = numbers_count n in
            let room : length b.rest < length (numbers_below n) = b.room in
            let is_bag : c ≡ bag_of (listed (put_in (tree_of y e (a ∷ [])) trees)) = h.is_bag ∙ ap (λ ts. bag_of (listed ts)) (sorted_same r) in
            moved_among w b.rest b.shared (Each-tail lives) c
            (Member-right (flat_map (λ p. keep_with (moved y e p.0 a) p.1) (picks trees))
            (when-Member (lt-ltb (length trees) n (omega arith))
            (subst (λ x. Member c (keep_with x trees)) (sym (begin_moves f)) (keep_with_has (tree_of y e (a ∷ [])) trees (Each-head lives) is_bag))))
        from (inr g) =
            let r = Reordered-map (tree_of y e) g.same in
            let lives : Each IsLive (map (tree_of y e) ((g.piece ++ a ∷ []) ∷ g.rest)) = Each-reordered r h.lives in
            let trees : List Plain = sorted (map (tree_of y e) g.rest) in
            let one : Plain = tree_of y e g.piece in
            let is_bag : c ≡ bag_of (listed (put_in (tree_of y e (g.piece ++ a ∷ [])) trees)) = h.is_bag ∙ ap (λ ts. bag_of (listed ts)) (sorted_same r) in
            moved_among w (g.piece ∷ g.rest) g.shared (item (front_live y e k g.piece (a ∷ []) (Each-head lives)) (Each-tail lives)) c
            (Member-left
            (flat_map-Member (λ (p : Plain × List Plain). keep_with (moved y e p.0 a) p.1) (picks_put one trees)
            (subst (λ x. Member c (keep_with x trees)) (sym (f g.piece)) (keep_with_has (tree_of y e (g.piece ++ a ∷ [])) trees (Each-head lives) is_bag)))
            (when (nat_lt (length (put_in one trees)) n) (keep_with (moved y e (tree_of y [] []) a) (put_in one trees))))

    -- the moved bags are those of the longer word
    pub bags_move : Tells y e → Moves y e a → (w : Word) → SameMembers (flat_map moved_bags (items_of (set_of (flat_map (times_bag y e n w) (sharings n w))))) (flat_map (times_bag y e n (w ++ a ∷ [])) (sharings n (w ++ a ∷ [])))
    bags_move k f w = SameMembers-trans
        (set_flat_map moved_bags (flat_map (times_bag y e n w) (sharings n w)))
        (record {
          to = λ c m. bagged_from (w ++ a ∷ []) c (bags_to f w c m);
          from = λ c m. bags_from k f w c (bagged_to (w ++ a ∷ []) c m);
        })

    pub times_moves : Tells y e → Begins a y e → MayTells a y e → Moves y e a → Moves (times n y) e a
    times_moves k b m f w =
        let bags : List Plain = flat_map (times_bag y e n w) (sharings n w) in
        let next : List Plain = flat_map (times_bag y e n (w ++ a ∷ [])) (sharings n (w ++ a ∷ [])) in
        let moves : List Plain = flat_map moved_bags (items_of (set_of bags)) in
        either_moves (times n y) e a (λ t. only_bag_done n (items_of (first_part t))) (is_empty bags) (is_empty next) (times_of (set_of bags)) (times_of (set_of next)) (times_of (set_of moves))
        (full_may n y e a (items_of (set_of bags))) refl
        (times_may a y e n k b m w) refl (times_told y e n k (w ++ a ∷ [])).partial
        (λ c p. ap times_of (set_same moves next (bags_move k f w)))
