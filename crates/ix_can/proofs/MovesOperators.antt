-- Of each operator but the parallel ones: where the trees of its operands move, so do its own.
use Rattle.std.proofs.Common.{◌≡◌, ◌↔◌, Bool, true, false, cond, not, ◌&&◌, ◌||◌, List, [], ◌∷◌, ◌++◌, flat_map, filter, refl, sym, ap, ◌∙◌, append-nil, append_assoc, if◌then◌else◌}
use Rattle.std.specs.List.{list_any, list_all}
use Rattle.ix_words.specs.Each.{no_item, item}
use Rattle.ix_words.specs.Words.{Joined, Repeated}
use Rattle.ix_words.specs.Canon.{SameMembers, when, cuts, with_end}
use Rattle.ix_words.proofs.Each.{Each-append}
use Rattle.ix_words.proofs.Canon.{SameMembers-trans, SameMembers-eq, SameMembers-append, SameMembers-sym}
use Rattle.ix_words.proofs.Laws.{joined_grow}
use Rattle.ix_values.specs.PlainAction.{PlainAction, Word}
use Rattle.ix_expr.specs.Form.{PlainAtom, Form, atom, opt, seq, star, or, and, couple}
use Rattle.ix_expr.specs.Environment.{Environment}
use Rattle.ix_expr.specs.Meaning.{IsComplete}
use Rattle.ix_tree.specs.Plain.{Plain, dead, done, opt as opt_of, seq as seq_of, star as star_of, or as or_of, and as and_of, couple as couple_of}
use Rattle.ix_expr.specs.Tests.{is_match, in_alphabet}
use Rattle.ix_can.specs.Ways.{is_empty}
use Rattle.ix_can.specs.Nodes.{is_dead, is_done, is_open, unless_done, items_of, set_of, live, seq_parts}
use Rattle.ix_can.specs.TreeOf.{is_final, tree_of}
use Rattle.ix_can.specs.inside.Moved.{moved, moved_inside, Moves}
use Rattle.ix_words.proofs.Deciding.{iff_trans, iff_sym, one_test, when_both}
use Rattle.ix_can.proofs.Lists.{both_iff, when_not, when_passes, made_says, any_same, filled_says}
use Rattle.ix_can.proofs.Ways.{joined_says}
use Rattle.ix_can.proofs.Ends.{filter_end, repeated_end}
use Rattle.ix_can.proofs.Spent.{unless_moved}
use Rattle.ix_can.proofs.Nodes.{live_final}
use Rattle.ix_can.proofs.Agreeing.{flat_map-alike, empty_tree}
use Rattle.ix_can.proofs.OperatorsTell.{Tells, opt_told, seq_told, or_told, and_told, couple_told, star_told, again, again_says, seq_rest, star_rest}
use Rattle.ix_can.proofs.MayTell.{Begins, MayTells, opt_may, seq_may, or_may, and_may, couple_may, star_may}
use Rattle.ix_can.proofs.MovesShared.{node_moves, empty_live, flat_map-when, flat_map-both, cuts_more, last_cut, open_set_same, open_moved, live_moved}

longer : (w : Word) (a : PlainAction) → false ≡ is_empty (w ++ a ∷ [])
longer [] a = refl
longer (b ∷ w) a = refl

module _ (a : PlainAction) where
  pub atom_moves : (x : PlainAtom) (e : Environment) → Moves (atom x) e a
  atom_moves x e [] = refl
  atom_moves x e (b ∷ []) = once (is_match x e b)
    where
      once : (t : Bool) → moved (atom x) e (if t then done else dead) a ≡ dead
      once true = refl
      once false = refl
  atom_moves x e (b ∷ c ∷ w) = refl

  pub opt_moves : (y : Form) (e : Environment) → Tells y e → MayTells a y e → Moves y e a → Moves (opt y) e a
  opt_moves y e k m v w =
      node_moves (opt y) e a
      (is_dead (tree_of y e w)) (is_dead (tree_of y e (w ++ a ∷ [])))
      (opt_of (is_empty w) (tree_of y e w)) (opt_of (is_empty (w ++ a ∷ [])) (tree_of y e (w ++ a ∷ [])))
      (opt_of false (moved y e (tree_of y e w) a)) refl
      (opt_may a y e k m w) refl (opt_told y e k (w ++ a ∷ [])).partial
      (λ b p. (λ i. opt_of (longer w a i) (v w i)))

  module _ (y z : Form) (e : Environment) where
    pub or_moves : Tells y e → Tells z e → MayTells a y e → MayTells a z e → Moves y e a → Moves z e a → Moves (or y z) e a
    or_moves k l m n v u w =
        node_moves (or y z) e a
        (is_dead (tree_of y e w) && is_dead (tree_of z e w)) (is_dead (tree_of y e (w ++ a ∷ [])) && is_dead (tree_of z e (w ++ a ∷ [])))
        (or_of (tree_of y e w) (tree_of z e w)) (or_of (tree_of y e (w ++ a ∷ [])) (tree_of z e (w ++ a ∷ [])))
        (or_of (moved y e (tree_of y e w) a) (moved z e (tree_of z e w) a)) refl
        (or_may a y z e k l m n w) refl (or_told y z e k l (w ++ a ∷ [])).partial
        (λ b p. (λ i. or_of (v w i) (u w i)))

    pub and_moves : Tells y e → Tells z e → MayTells a y e → MayTells a z e → Moves y e a → Moves z e a → Moves (and y z) e a
    and_moves k l m n v u w =
        node_moves (and y z) e a
        (is_dead (tree_of y e w) || is_dead (tree_of z e w)) (is_dead (tree_of y e (w ++ a ∷ [])) || is_dead (tree_of z e (w ++ a ∷ [])))
        (and_of (tree_of y e w) (tree_of z e w)) (and_of (tree_of y e (w ++ a ∷ [])) (tree_of z e (w ++ a ∷ [])))
        (and_of (moved y e (tree_of y e w) a) (moved z e (tree_of z e w) a)) refl
        (and_may a y z e k l m n w) refl (and_told y z e k l (w ++ a ∷ [])).partial
        (λ b p. (λ i. and_of (v w i) (u w i)))

  -- the action moves what it is inside of, and leaves what it isn't inside of
  pub side_moves : (y : Form) (e : Environment) (test : PlainAction → Bool) → Moves y e a → (w : Word) →
      moved_inside (test a) (moved y e (tree_of y e (filter test w)) a) (tree_of y e (filter test w)) ≡ tree_of y e (filter test (w ++ a ∷ []))
  side_moves y e test v w = side (test a) (filter test w) ∙ ap (tree_of y e) (sym (filter_end test w a))
    where
      side : (t : Bool) (u : Word) → moved_inside t (moved y e (tree_of y e u) a) (tree_of y e u) ≡ tree_of y e (u ++ cond t (a ∷ []) [])
      side true u = v u
      side false u = ap (tree_of y e) (sym (append-nil u))

  module _ (y z : Form) (e : Environment) where
    pub couple_moves : Tells y e → Tells z e → MayTells a y e → MayTells a z e → Moves y e a → Moves z e a → Moves (couple y z) e a
    couple_moves k l m n v u w =
        let left : Word → Plain = λ x. tree_of y e (filter (in_alphabet y e) x) in
        let right : Word → Plain = λ x. tree_of z e (filter (in_alphabet z e) x) in
        let outside : Word → Bool = λ x. not (list_all (λ b. in_alphabet y e b || in_alphabet z e b) x) || (is_dead (left x) || is_dead (right x)) in
        node_moves (couple y z) e a (outside w) (outside (w ++ a ∷ []))
        (couple_of (left w) (right w)) (couple_of (left (w ++ a ∷ [])) (right (w ++ a ∷ [])))
        (couple_of (moved_inside (in_alphabet y e a) (moved y e (left w) a) (left w)) (moved_inside (in_alphabet z e a) (moved z e (right w) a) (right w))) refl
        (couple_may a y z e k l m n w) refl (couple_told y z e k l (w ++ a ∷ [])).partial
        (λ b p. (λ i. couple_of (side_moves y e (in_alphabet y e) v w i) (side_moves z e (in_alphabet z e) u w i)))

    -- the first part, which has dead in place of done, moves
    first_moves : Moves y e a → (w : Word) → moved y e (unless_done (tree_of y e w)) a ≡ tree_of y e (w ++ a ∷ [])
    first_moves v w = unless_moved y e (tree_of y e w) a ∙ v w

    -- the alternatives of the second part, and one of the empty word where the first part is complete
    abbrev seq_moved : Word → List Plain
    seq_moved w =
        flat_map (λ s. live (moved z e s a)) (items_of (set_of (filter is_open (flat_map (seq_rest y z e) (cuts w)))))
        ++ when (is_final y (moved y e (unless_done (tree_of y e w)) a)) (tree_of z [] [] ∷ [])

    rest_moved : Moves z e a → (c : Word × Word) → flat_map (λ s. live (moved z e s a)) (seq_rest y z e c) ≡ seq_rest y z e (with_end a c)
    rest_moved u c =
        flat_map-when (λ s. live (moved z e s a)) (is_final y (tree_of y e c.0)) (live (tree_of z e c.1))
        ∙ ap (when (is_final y (tree_of y e c.0))) (live_moved z e a (tree_of z e c.1) ∙ ap live (u c.1))

    second_begins : Tells z e → Moves y e a → (w : Word) → when (is_final y (moved y e (unless_done (tree_of y e w)) a)) (tree_of z [] [] ∷ []) ≡ seq_rest y z e (w ++ a ∷ [], [])
    second_begins l v w =
        let begun : tree_of z [] [] ∷ [] ≡ live (tree_of z e []) =
        ap (λ t. t ∷ []) (empty_tree z [] e) ∙ ap (λ t. when t (tree_of z e [] ∷ [])) (sym (empty_live z e e l)) in
        (λ i. when (is_final y (first_moves v w i)) (begun i))

    seq_same : Tells z e → Moves y e a → Moves z e a → (w : Word) → SameMembers (seq_moved w) (flat_map (seq_rest y z e) (cuts (w ++ a ∷ [])))
    seq_same l v u w =
        let test : Plain → List Plain = λ s. live (moved z e s a) in
        SameMembers-trans
        (SameMembers-append
        (SameMembers-trans (open_moved z e a (seq_rest y z e) (cuts w))
        (SameMembers-eq (flat_map-alike {f = λ c. flat_map test (seq_rest y z e c)} {g = λ c. seq_rest y z e (with_end a c)} (cuts w) (λ c i. rest_moved u c))))
        (SameMembers-eq (second_begins l v w)))
        (SameMembers-eq (sym (cuts_more (seq_rest y z e) w a)))

    pub seq_moves : Tells y e → Tells z e → MayTells a y e → MayTells a z e → Moves y e a → Moves z e a → Moves (seq y z) e a
    seq_moves k l m n v u w =
        let rest : Word → List Plain = λ x. flat_map (seq_rest y z e) (cuts x) in
        node_moves (seq y z) e a
        (is_dead (tree_of y e w) && is_empty (rest w)) (is_dead (tree_of y e (w ++ a ∷ [])) && is_empty (rest (w ++ a ∷ [])))
        (seq_parts (tree_of y e w) (rest w)) (seq_parts (tree_of y e (w ++ a ∷ [])) (rest (w ++ a ∷ [])))
        (seq_parts (moved y e (unless_done (tree_of y e w)) a) (seq_moved w)) refl
        (seq_may a y z e k l m n w) refl (seq_told y z e k l (w ++ a ∷ [])).partial
        (λ b p. let same = seq_same l v u w in
        (λ i. seq_of (unless_done (first_moves v w i)) (any_same is_done (seq_moved w) (rest (w ++ a ∷ [])) same i) (open_set_same (seq_moved w) (rest (w ++ a ∷ [])) same i)))

  module _ (y : Form) (e : Environment) where
    -- the alternatives of the last piece, and one that begins with the action where the word is a concatenation
    abbrev star_moved : Word → List Plain
    star_moved w =
        flat_map (λ s. live (moved y e s a)) (items_of (set_of (filter is_open (flat_map (star_rest y e) (cuts w)))))
        ++ when (again y e w) (live (moved y e (tree_of y [] []) a))

    -- a piece that is there goes on
    abbrev piece_more : Word × Word → List Plain
    piece_more c = when (not (is_empty c.1) && again y e c.0) (live (tree_of y e (c.1 ++ a ∷ [])))

    -- a piece of the action alone
    abbrev piece_new : Word × Word → List Plain
    piece_new c = when (again y e c.0) (live (tree_of y e (a ∷ [])))

    piece_moved : Moves y e a → (c : Word × Word) → flat_map (λ s. live (moved y e s a)) (star_rest y e c) ≡ piece_more c
    piece_moved v c =
        flat_map-when (λ s. live (moved y e s a)) (not (is_empty c.1) && again y e c.0) (live (tree_of y e c.1))
        ∙ ap (when (not (is_empty c.1) && again y e c.0)) (live_moved y e a (tree_of y e c.1) ∙ ap live (v c.1))

    piece_either : (u v : Word) → piece_more (u, v) ++ when (is_empty v) (piece_new (u, v)) ≡ star_rest y e (u, v ++ a ∷ [])
    piece_either u [] = refl
    piece_either u (b ∷ v) = append-nil (piece_more (u, b ∷ v))

    first_piece : Moves y e a → (w : Word) → when (again y e w) (live (moved y e (tree_of y [] []) a)) ≡ flat_map (λ c. when (is_empty c.1) (piece_new c)) (cuts w)
    first_piece v w =
        ap (λ t. when (again y e w) (live t)) (ap (λ t. moved y e t a) (empty_tree y [] e) ∙ v [])
        ∙ sym (last_cut piece_new w)

    star_same : Moves y e a → (w : Word) → SameMembers (star_moved w) (flat_map (star_rest y e) (cuts (w ++ a ∷ [])))
    star_same v w =
        let test : Plain → List Plain = λ s. live (moved y e s a) in
        let rest : Word × Word → List Plain = star_rest y e in
        let last : Word × Word → List Plain = λ c. when (is_empty c.1) (piece_new c) in
        SameMembers-trans
        (SameMembers-append
        (SameMembers-trans (open_moved y e a rest (cuts w))
        (SameMembers-eq (flat_map-alike {f = λ c. flat_map test (rest c)} {g = piece_more} (cuts w) (λ c i. piece_moved v c))))
        (SameMembers-eq (first_piece v w)))
        (SameMembers-trans
        (SameMembers-sym (flat_map-both piece_more last (cuts w)))
        (SameMembers-eq
        (flat_map-alike {f = λ c. piece_more c ++ last c} {g = λ c. rest (with_end a c)} (cuts w) (λ c i. piece_either c.0 c.1)
        ∙ sym (append-nil (flat_map (λ c. rest (with_end a c)) (cuts w)))
        ∙ sym (cuts_more rest w a))))

    -- a concatenation ends in a piece that isn't empty
    whole_pieces : (w : Word) → Joined (Repeated (IsComplete y e)) (λ v. ¬ (v ≡ []) × IsComplete y e v) (w ++ a ∷ []) ↔ Repeated (IsComplete y e) (w ++ a ∷ [])
    whole_pieces w = (
      λ j. record {
        pieces = j.front_has.pieces ++ j.back ∷ [];
        whole = j.whole ∙ ap (λ x. x ++ j.back) j.front_has.whole ∙ sym (joined_grow j.front_has.pieces j.back);
        each_has = Each-append j.front_has.each_has (item j.back_has.1 no_item);
      },
      λ h. let j = repeated_end w a h in record {
        front = j.front;
        back = j.back ++ a ∷ [];
        whole = ap (λ x. x ++ a ∷ []) j.whole ∙ append_assoc j.front j.back (a ∷ []);
        front_has = j.front_has;
        back_has = ((filled_says (j.back ++ a ∷ [])).0 (sym (longer j.back a)), j.back_has);
      },
    )

    piece_final : Tells y e → (c : Word × Word) → (list_any (is_final y) (star_rest y e c) ≡ true) ↔ (Repeated (IsComplete y e) c.0 × (¬ (c.1 ≡ []) × IsComplete y e c.1))
    piece_final k c = iff_trans
        (when_passes (is_final y) (not (is_empty c.1) && again y e c.0) (live (tree_of y e c.1)))
        (iff_trans
        (both_iff (when_both (not (is_empty c.1)) (again y e c.0) (when_not (is_empty c.1) (filled_says c.1)) (again_says y e k c.0)) (live_final y (tree_of y e c.1) (k c.1)))
        (λ h. (h.0.1, (h.0.0, h.1)), λ h. ((h.1.0, h.0), h.1.1)))

    -- the longer word is a concatenation exactly where some alternative is complete
    again_moved : Tells y e → Moves y e a → (w : Word) → list_any (is_final y) (star_moved w) ≡ again y e (w ++ a ∷ [])
    again_moved k v w =
        let pieces : List Plain = flat_map (star_rest y e) (cuts (w ++ a ∷ [])) in
        any_same (is_final y) (star_moved w) pieces (star_same v w)
        ∙ one_test (list_any (is_final y) pieces) (again y e (w ++ a ∷ []))
        (iff_trans (made_says (is_final y) (star_rest y e) (cuts (w ++ a ∷ [])) (λ c i. piece_final k c))
        (iff_trans (joined_says (w ++ a ∷ []))
        (iff_trans (whole_pieces w) (iff_sym (again_says y e k (w ++ a ∷ []))))))

    pub star_moves : Tells y e → Begins a y e → MayTells a y e → Moves y e a → Moves (star y) e a
    star_moves k f m v w =
        let rest : Word → List Plain = λ x. flat_map (star_rest y e) (cuts x) in
        node_moves (star y) e a
        (not (again y e w) && is_empty (rest w)) (not (again y e (w ++ a ∷ [])) && is_empty (rest (w ++ a ∷ [])))
        (star_of (again y e w) (set_of (filter is_open (rest w)))) (star_of (again y e (w ++ a ∷ [])) (set_of (filter is_open (rest (w ++ a ∷ [])))))
        (star_of (list_any (is_final y) (star_moved w)) (set_of (filter is_open (star_moved w)))) refl
        (star_may a y e k f m w) refl (star_told y e k (w ++ a ∷ [])).partial
        (λ b p. (λ i. star_of (again_moved k v w i) (open_set_same (star_moved w) (rest (w ++ a ∷ [])) (star_same v w) i)))
