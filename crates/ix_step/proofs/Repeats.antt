-- Of equal trees of a bag one is moved: the next gives the same bag.
use Rattle.std.proofs.Common.{Option, ◌≡◌, ℕ, zero, suc, ◌<◌, ◌≤◌, ◌+◌, Bool, true, false, List, [], ◌∷◌, length, get_or, take, flat_map, refl, sym, ap, ◌∙◌, arith, Ordering, Less, Equal, Greater}
use Rattle.std.proofs.lemmas.List.{get_or_default}
use Rattle.std.specs.Cmp.{tied_itself}
use Rattle.std.specs.List.{remove}
use Rattle.ix_words.specs.Canon.{by_order, put_once, when}
use Rattle.ix_values.specs.PlainAction.{PlainAction}
use Rattle.ix_expr.specs.Environment.{Environment}
use Rattle.ix_expr.specs.Form.{Form}
use Rattle.ix_tree.specs.Order.{tree_cmp}
use Rattle.ix_tree.specs.Plain.{Plain, bag, dead, listed}
use Rattle.ix_tree.specs.lemmas.TreeOrder.{tree_order}
use Rattle.ix_can.specs.Nodes.{is_live}
use Rattle.ix_can.specs.inside.Moved.{moved, picks}
use Rattle.ix_step.specs.inside.Makes.{put_all}
use Rattle.ix_step.specs.inside.ParallelMoves.{pick_move, more_runs, IsRepeat}
use Rattle.ix_step.proofs.BagsPut.{length-picks, get-picks}
use Rattle.ix_step.proofs.Gathering.{lots_more}

tied : (x : Plain) → tree_cmp x x ≡ Equal
tied x = tied_itself tree_order.total x

-- a tree that is put twice is put once
put_twice : (y : Plain) (xs : List Plain) → put_once tree_cmp y (put_once tree_cmp y xs) ≡ put_once tree_cmp y xs
put_twice y [] = ap (λ o. by_order o (y ∷ y ∷ []) (y ∷ []) (y ∷ put_once tree_cmp y [])) (tied y)
put_twice y (x ∷ xs) = go (tree_cmp y x) refl (put_twice y xs)
  where
    go : (o : Ordering) → tree_cmp y x ≡ o → put_once tree_cmp y (put_once tree_cmp y xs) ≡ put_once tree_cmp y xs →
        put_once tree_cmp y (by_order o (y ∷ x ∷ xs) (x ∷ xs) (x ∷ put_once tree_cmp y xs))
        ≡ by_order o (y ∷ x ∷ xs) (x ∷ xs) (x ∷ put_once tree_cmp y xs)
    go Less c rest = ap (λ o. by_order o (y ∷ y ∷ x ∷ xs) (y ∷ x ∷ xs) (y ∷ put_once tree_cmp y (x ∷ xs))) (tied y)
    go Equal c rest = ap (λ o. by_order o (y ∷ x ∷ xs) (x ∷ xs) (x ∷ put_once tree_cmp y xs)) c
    go Greater c rest =
        ap (λ o. by_order o (y ∷ x ∷ put_once tree_cmp y xs) (x ∷ put_once tree_cmp y xs) (x ∷ put_once tree_cmp y (put_once tree_cmp y xs))) c
        ∙ ap (λ l. x ∷ l) rest

put_again : (b : Bool) (x : Plain) (xs : List Plain) → put_all (when b (x ∷ [])) (put_all (when b (x ∷ [])) xs) ≡ put_all (when b (x ∷ [])) xs
put_again true x xs = put_twice x xs
put_again false x xs = refl

-- without one of two equal neighbours the list is the same
remove_same : (xs : List Plain) (i : ℕ) (d : Plain) → suc i < length xs → get_or xs i d ≡ get_or xs (suc i) d → remove xs i ≡ remove xs (suc i)
remove_same [] i d lt e = absurd (omega arith)
remove_same (x ∷ []) i d lt e = absurd (omega arith)
remove_same (x ∷ y ∷ ys) zero d lt e = ap (λ z. z ∷ ys) (sym e)
remove_same (x ∷ y ∷ ys) (suc i) d lt e = ap (λ l. x ∷ l) (remove_same (y ∷ ys) i d (omega arith) e)

-- the bag of a tree that equals the one before it is in the list already
picked_again : (wanted : Option ℕ) (y : Form) (e : Environment) (a : PlainAction) (items : List Plain) (before : ℕ) (t : Plain) (start old : List Plain) → before + 1 < length items → t ≡ get_or items before t → t ≡ get_or items (before + 1) t → old ≡ put_all (flat_map (pick_move wanted y e a) (take (before + 1) (picks items))) start → put_all (pick_move wanted y e a (t, remove items (before + 1))) old ≡ old
picked_again wanted y e a items before t start old lt first second so_far =
    let suc_is : suc before ≡ before + 1 = omega arith in
    let same : remove items before ≡ remove items (before + 1) =
    remove_same items before t (omega arith) (sym first ∙ second ∙ ap (λ n. get_or items n t) (sym suc_is)) ∙ ap (remove items) suc_is in
    let is : (t, remove items before) ≡ get_or (picks items) before (t, remove items before) =
    ap (λ u. (u, remove items before)) first ∙ sym (get-picks items before t (t, remove items before) (omega arith)) in
    let put : put_all (pick_move wanted y e a (t, remove items before)) (put_all (flat_map (pick_move wanted y e a) (take before (picks items))) start) ≡ old =
    lots_more (pick_move wanted y e a) (picks items) before (t, remove items before) start (put_all (flat_map (pick_move wanted y e a) (take before (picks items))) start)
    (put_all (pick_move wanted y e a (t, remove items before)) (put_all (flat_map (pick_move wanted y e a) (take before (picks items))) start))
    (omega (arith, length-picks items)) is refl refl ∙ sym so_far in
    ap (λ r. put_all (pick_move wanted y e a (t, r)) old) (sym same)
    ∙ ap (put_all (pick_move wanted y e a (t, remove items before))) (sym put)
    ∙ put_again (is_live (moved y e t a)) (bag (listed (more_runs wanted (moved y e t a) (remove items before)))) (put_all (flat_map (pick_move wanted y e a) (take before (picks items))) start)
    ∙ put

-- so it adds nothing to the bags so far
pub repeat_adds_none : (wanted : Option ℕ) (y : Form) (e : Environment) (a : PlainAction) (items : List Plain) (place : ℕ) (t : Plain) (start old : List Plain) → place < length items → t ≡ get_or items place t → IsRepeat items place → old ≡ put_all (flat_map (pick_move wanted y e a) (take place (picks items))) start → old ≡ put_all (flat_map (pick_move wanted y e a) (take (place + 1) (picks items))) start
repeat_adds_none wanted y e a items place t start old lt at repeat so_far =
    let at_picks : (t, remove items place) ≡ get_or (picks items) place (t, remove items place) =
    ap (λ u. (u, remove items place)) at ∙ sym (get-picks items place t (t, remove items place) lt) in
    let again : put_all (pick_move wanted y e a (t, remove items (repeat.0 + 1))) old ≡ old =
    picked_again wanted y e a items repeat.0 t start old (omega (arith, repeat.1)) (at ∙ sym (repeat.2 t)) (at ∙ ap (λ n. get_or items n t) repeat.1)
    (so_far ∙ ap (λ n. put_all (flat_map (pick_move wanted y e a) (take n (picks items))) start) repeat.1) in
    lots_more (pick_move wanted y e a) (picks items) place (t, remove items place) start old old (omega (arith, length-picks items)) at_picks so_far
    (sym (ap (λ n. put_all (pick_move wanted y e a (t, remove items n)) old) repeat.1 ∙ again))

-- and so do all trees up to the end of a run
pub run_adds_none : (wanted : Option ℕ) (y : Form) (e : Environment) (a : PlainAction) (items : List Plain) (place more : ℕ) (start old : List Plain) → place + 1 + more ≤ length items → ((k : ℕ) → place < k → k < place + 1 + more → IsRepeat items k) → old ≡ put_all (flat_map (pick_move wanted y e a) (take (place + 1) (picks items))) start → old ≡ put_all (flat_map (pick_move wanted y e a) (take (place + 1 + more) (picks items))) start
run_adds_none wanted y e a items place zero start old within repeats so_far =
    so_far ∙ ap (λ n. put_all (flat_map (pick_move wanted y e a) (take n (picks items))) start) (omega arith)
run_adds_none wanted y e a items place (suc more) start old within repeats so_far =
    let at = place + 1 + more in
    let tree = get_or items at dead in
    repeat_adds_none wanted y e a items at tree start old (omega arith) (get_or_default items at dead tree (omega arith)) (repeats at (omega arith) (omega arith))
    (run_adds_none wanted y e a items place more start old (omega arith) (λ k low high. repeats k low (omega arith)) so_far)
    ∙ ap (λ n. put_all (flat_map (pick_move wanted y e a) (take n (picks items))) start) (omega arith)
