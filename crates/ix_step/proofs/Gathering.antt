-- Lists into which several lots of trees are put, one lot after another.
use Rattle.std.proofs.Common.{inl, inr, not, Bool, true, false, Option, Some, None, ◌≡◌, ℕ, zero, suc, ◌<◌, ◌≤◌, ◌+◌, List, [], ◌∷◌, ◌++◌, map, flat_map, length, get_or, take, drop, Result, Ok, Err, refl, sym, ap, ◌∙◌, subst, arith, append-nil, if◌then◌else◌}
use Rattle.std.proofs.lemmas.List.{take-append-drop, take_more}
use Rattle.std.proofs.Math.ListN.{get_or-map}
use Rattle.std.proofs.Math.Seq.{take-length}
use Rattle.std.specs.List.{list_any}
use Rattle.ix_words.specs.Each.{Each, item, Member, here}
use Rattle.ix_words.specs.Canon.{when}
use Rattle.ix_words.proofs.Each.{Each-members, Member-right, Member-either}
use Rattle.ix_words.proofs.Canon.{flat_map-append, Member-cases, Member-when, when-Member, Member-flat_map, flat_map-Member}
use Rattle.ix_values.specs.PlainAction.{PlainAction}
use Rattle.ix_expr.specs.Environment.{Environment}
use Rattle.ix_expr.specs.Form.{Form}
use Rattle.ix_tree.specs.Order.{first_part}
use Rattle.ix_tree.specs.Plain.{Plain, listed, items_of, pair, bag}
use Rattle.ix_tree.specs.Size.{size_of}
use Rattle.ix_tree.proofs.PlainLists.{items_of-listed}
use Rattle.ix_can.specs.Nodes.{is_live, put_in, set_of}
use Rattle.ix_can.proofs.Spent.{open_not_done}
use Rattle.ix_can.specs.inside.Moved.{moved, picks}
use Rattle.ix_words.proofs.Deciding.{any_says}
use Rattle.ix_step.specs.inside.Makes.{IsAboveLimit, put_all, Gathers}
use Rattle.ix_step.specs.inside.Moves.{if_open, begun}
use Rattle.ix_step.specs.inside.ParallelMoves.{pairs_moved, pick_move, pick_moves, bag_moves, more_runs, runs_with, begun_runs, has_room}
use Rattle.ix_step.specs.declared.fault.Unbuilt.{Unbuilt}
use Rattle.ix_step.proofs.BagsPut.{size-put_in}
use Rattle.ix_step.proofs.Gathered.{put_all-nothing, put_all-append, put_all_grows, put_all_holds, live_over, above_open, above_lives, open_over, size_all}

-- an item of a list, and what stands for it in the list's image
pub image_at : {M K : Type 0} (view : M → K) (xs : List M) (i : ℕ) (x : M) → x ≡ get_or xs i x → view x ≡ get_or (map view xs) i (view x)
image_at view xs i x e = ap view e ∙ sym (get_or-map view xs i x)

-- what each item has, the item at a place has
pub each_at : {K : Type 0} {G : K → Type 0} (ks : List K) (i : ℕ) (k : K) → i < length ks → k ≡ get_or ks i k → Each G ks → G k
each_at [] i k lt e h = absurd (omega arith)
each_at {G = G} (x ∷ ks) zero k lt e (item g h) = subst G (sym e) g
each_at (x ∷ ks) (suc i) k lt e (item g h) = each_at ks i k (omega arith) e h

-- one lot after another
pub gathers_after : (limit : ℕ) (us vs old mid new : List Plain) (r : Result (Unit {0}) Unbuilt) → mid ≡ put_all us old → Gathers limit vs mid new r → Gathers limit (us ++ vs) old new r
gathers_after limit us vs old mid new (Ok done) e h = h ∙ ap (put_all vs) e ∙ sym (put_all-append us vs old)
gathers_after limit us vs old mid new (Err fault) e h =
    subst (λ l. IsAboveLimit limit (listed l) fault) (ap (put_all vs) e ∙ sym (put_all-append us vs old)) h

-- the first lot is no larger than both together
pub front_size : (us vs old : List Plain) → size_all (put_all us old) ≤ size_all (put_all (us ++ vs) old)
front_size us vs old =
    subst (λ l. size_all (put_all us old) ≤ size_all l) (sym (put_all-append us vs old)) (put_all_grows vs (put_all us old))

module _ {K : Type 0} (lot : K → List Plain) where
  taken : (ks : List K) (i : ℕ) (k : K) → i < length ks → k ≡ get_or ks i k → flat_map lot (take (i + 1) ks) ≡ flat_map lot (take i ks) ++ lot k
  taken ks i k lt e =
      ap (flat_map lot) (take_more ks i k lt)
      ∙ flat_map-append lot (take i ks) (get_or ks i k ∷ [])
      ∙ ap (λ l. flat_map lot (take i ks) ++ l) (append-nil (lot (get_or ks i k)) ∙ ap lot (sym e))

  -- the lots so far and one more
  pub lots_more : (ks : List K) (i : ℕ) (k : K) (start old new : List Plain) → i < length ks → k ≡ get_or ks i k → old ≡ put_all (flat_map lot (take i ks)) start → new ≡ put_all (lot k) old → new ≡ put_all (flat_map lot (take (i + 1) ks)) start
  lots_more ks i k start old new lt e so_far h =
      h ∙ ap (put_all (lot k)) so_far ∙ sym (put_all-append (flat_map lot (take i ks)) (lot k) start)
      ∙ ap (λ l. put_all l start) (sym (taken ks i k lt e))

  all_lots : (ks : List K) (i : ℕ) (k : K) → i < length ks → k ≡ get_or ks i k → flat_map lot ks ≡ (flat_map lot (take i ks) ++ lot k) ++ flat_map lot (drop (i + 1) ks)
  all_lots ks i k lt e =
      ap (flat_map lot) (sym (take-append-drop (i + 1) ks))
      ∙ flat_map-append lot (take (i + 1) ks) (drop (i + 1) ks)
      ∙ ap (λ l. l ++ flat_map lot (drop (i + 1) ks)) (taken ks i k lt e)

  -- one lot, put after those before it, is no larger than all together
  pub lot_size : (ks : List K) (i : ℕ) (k : K) (start old : List Plain) → i < length ks → k ≡ get_or ks i k → old ≡ put_all (flat_map lot (take i ks)) start → size_all (put_all (lot k) old) ≤ size_all (put_all (flat_map lot ks) start)
  lot_size ks i k start old lt e so_far =
      let upto : List Plain = flat_map lot (take i ks) ++ lot k in
      let here : put_all (lot k) old ≡ put_all upto start = ap (put_all (lot k)) so_far ∙ sym (put_all-append (flat_map lot (take i ks)) (lot k) start) in
      let size : size_all (put_all (lot k) old) ≡ size_all (put_all upto start) = ap size_all here in
      let all : size_all (put_all (flat_map lot ks) start) ≡ size_all (put_all (upto ++ flat_map lot (drop (i + 1) ks)) start) = ap (λ l. size_all (put_all l start)) (all_lots ks i k lt e) in
      omega (arith, front_size upto (flat_map lot (drop (i + 1) ks)) start)

  -- so what puts them above the limit puts all above it
  pub lot_over : (limit : ℕ) (ks : List K) (i : ℕ) (k : K) (start old : List Plain) → i < length ks → k ≡ get_or ks i k → old ≡ put_all (flat_map lot (take i ks)) start → limit < size_all (put_all (lot k) old) → limit < size_all (put_all (flat_map lot ks) start)
  lot_over limit ks i k start old lt e so_far over = omega (arith, lot_size ks i k start old lt e so_far)

  -- all lots, where none is left
  pub lots_end : (ks : List K) (start new : List Plain) → new ≡ put_all (flat_map lot (take (length ks) ks)) start → new ≡ put_all (flat_map lot ks) start
  lots_end ks start new h = h ∙ ap (λ l. put_all (flat_map lot l) start) (take-length ks)

-- Sets of two lots

pub set_is : (us vs old : List Plain) → old ≡ put_all us [] → listed (put_all vs old) ≡ set_of (us ++ vs)
set_is us vs old e = ap listed (ap (put_all vs) e ∙ sym (put_all-append us vs []) ∙ put_all-nothing (us ++ vs))

-- the first lot is no larger than the set
pub front_of_set : (us vs : List Plain) → size_all (put_all us []) ≤ size_of (set_of (us ++ vs))
front_of_set us vs = subst (λ l. size_all (put_all us []) ≤ size_all l) (put_all-nothing (us ++ vs)) (front_size us vs [])

-- a tree of the second lot that is above the limit puts the set above it
pub open_in_set : (limit : ℕ) (us : List Plain) (x : Plain) → 1 ≤ limit → limit < size_of x → limit < size_of (set_of (us ++ if_open x))
open_in_set limit us x le lt =
    subst (λ l. limit < size_of l) (set_is us (if_open x) (put_all us []) refl) (open_over limit x (put_all us []) le lt)

-- the set of what is made of the items of a list
pub made_set : (f : Plain → List Plain) (xs : List Plain) → listed (put_all (flat_map f xs) []) ≡ set_of (flat_map f (items_of (listed xs)))
made_set f xs = ap listed (put_all-nothing (flat_map f xs)) ∙ ap (λ l. set_of (flat_map f l)) (sym (items_of-listed xs))

-- Pairs

module _ (limit : ℕ) (x u left right : Plain) (old : List Plain) (le : 1 ≤ limit) where
  pub left_over : limit < size_of left → limit < size_all (put_all (pairs_moved x u left right) old)
  left_over lt =
      let k : limit < size_all (put_all (when (is_live left) (pair left u ∷ [])) old) = live_over limit left (pair left u) old le (omega arith) lt in
      omega (arith, front_size (when (is_live left) (pair left u ∷ [])) (when (is_live right) (pair x right ∷ [])) old)

  pub right_over : limit < size_of right → limit < size_all (put_all (pairs_moved x u left right) old)
  right_over lt =
      subst (λ l. limit < size_all l) (sym (put_all-append (when (is_live left) (pair left u ∷ [])) (when (is_live right) (pair x right ∷ [])) old))
      (live_over limit right (pair x right) (put_all (when (is_live left) (pair left u ∷ [])) old) le (omega arith) lt)

-- Bags

-- it is a bag of a list of trees
abbrev pub IsBag : Plain → Type 0
IsBag b = b ≡ bag (listed (items_of (first_part b)))

module _ (wanted : Option ℕ) (y : Form) (e : Environment) (a : PlainAction) (ts us : List Plain) (same : us ≡ ts) (old : List Plain) where
  picks_same : put_all (pick_moves wanted y e a us) old ≡ put_all (pick_moves wanted y e a (items_of (listed ts))) old
  picks_same = ap (λ l. put_all (pick_moves wanted y e a l) old) (same ∙ sym (items_of-listed ts))

  -- the bags with one tree moved are no larger than all that a bag gives
  pub picks_size : size_all (put_all (pick_moves wanted y e a us) old) ≤ size_all (put_all (bag_moves wanted y e a (bag (listed ts))) old)
  picks_size = omega (arith, ap size_all picks_same, front_size (pick_moves wanted y e a (items_of (listed ts))) (begun_runs wanted (begun y e a) (items_of (listed ts))) old)

  -- a run that begins is looked at only where there is room
  room_alike : (first : Plain) (runs : List Plain) → (has_room wanted runs ≡ true → first ≡ begun y e a) → begun_runs wanted first runs ≡ begun_runs wanted (begun y e a) runs
  room_alike first runs is = by_test (has_room wanted runs) is
    where
      by_test : (b : Bool) → (b ≡ true → first ≡ begun y e a) → when b (runs_with wanted first runs) ≡ when b (runs_with wanted (begun y e a) runs)
      by_test true same = ap (λ x. runs_with wanted x runs) (same refl)
      by_test false same = refl

  -- all that a bag gives
  pub bag_put : (vs mid : List Plain) (first : Plain) → vs ≡ ts → (has_room wanted (items_of (listed ts)) ≡ true → first ≡ begun y e a) → mid ≡ put_all (pick_moves wanted y e a us) old → put_all (begun_runs wanted first vs) mid ≡ put_all (bag_moves wanted y e a (bag (listed ts))) old
  bag_put vs mid first again is so_far =
      ap (λ l. put_all (begun_runs wanted first l) mid) (again ∙ sym (items_of-listed ts))
      ∙ ap (λ l. put_all l mid) (room_alike first (items_of (listed ts)) is)
      ∙ ap (put_all (begun_runs wanted (begun y e a) (items_of (listed ts)))) (so_far ∙ picks_same)
      ∙ sym (put_all-append (pick_moves wanted y e a (items_of (listed ts))) (begun_runs wanted (begun y e a) (items_of (listed ts))) old)

-- a tree above the limit isn't left out of its bag
more_size : (wanted : Option ℕ) (limit : ℕ) (x : Plain) (others : List Plain) → 1 ≤ limit → limit < size_of x → size_of x ≤ size_of (bag (listed (more_runs wanted x others)))
more_size (Some n) limit x others le lt = omega (arith, size-put_in x others)
more_size None limit x others le lt =
    omega (arith, size-put_in x others, ap (λ b. size_of (listed (if b then others else put_in x others))) (open_not_done x (above_open limit x le lt)))

-- so this puts the list above the limit
pub bag_over : (wanted : Option ℕ) (limit : ℕ) (x : Plain) (others old : List Plain) → 1 ≤ limit → limit < size_of x → limit < size_all (put_all (runs_with wanted x others) old)
bag_over wanted limit x others old le lt =
    live_over limit x (bag (listed (more_runs wanted x others))) old le (more_size wanted limit x others le lt) lt

-- where some bag has room for it, a first run above the limit puts the set above it
pub first_over : (wanted : Option ℕ) (limit : ℕ) (y : Form) (e : Environment) (a : PlainAction) (bs : List Plain) → list_any (λ b. has_room wanted (items_of (first_part b))) bs ≡ true → 1 ≤ limit → limit < size_of (begun y e a) → limit < size_of (set_of (flat_map (bag_moves wanted y e a) bs))
first_over wanted limit y e a bs room le lt =
    let k = (any_says (λ b. has_room wanted (items_of (first_part b))) bs).0 room in
    let runs : List Plain = items_of (first_part k.which) in
    let made : Plain = bag (listed (more_runs wanted (begun y e a) runs)) in
    let live : is_live (begun y e a) ≡ true = ap not (above_lives limit (begun y e a) le lt) in
    let among : Member made (flat_map (bag_moves wanted y e a) bs) = flat_map-Member (bag_moves wanted y e a) k.among
    (Member-right (pick_moves wanted y e a runs) (when-Member k.passes (when-Member live here))) in
    omega (arith, more_size wanted limit (begun y e a) runs le lt, put_all_holds made (flat_map (bag_moves wanted y e a) bs) [] among, ap size_all (put_all-nothing (flat_map (bag_moves wanted y e a) bs)))

-- each of the bags is one
pub bags_are : (wanted : Option ℕ) (y : Form) (e : Environment) (a : PlainAction) (bs : List Plain) → Each IsBag (flat_map (bag_moves wanted y e a) bs)
bags_are wanted y e a bs = Each-members (flat_map (bag_moves wanted y e a) bs) (λ b m.
    let k = Member-flat_map (bag_moves wanted y e a) bs m in
    let runs : List Plain = items_of (first_part k.0) in
    elim (Member-either (pick_moves wanted y e a runs) (begun_runs wanted (begun y e a) runs) k.2) [
      | inl l ↦ let j = Member-flat_map (pick_move wanted y e a) (picks runs) l in one_bag (moved y e j.0.0 a) j.0.1 b j.2
      | inr r ↦ one_bag (begun y e a) runs b (Member-when (has_room wanted runs) (runs_with wanted (begun y e a) runs) r).1
    ])
  where
    one_bag : (x : Plain) (runs : List Plain) (b : Plain) → Member b (runs_with wanted x runs) → IsBag b
    one_bag x runs b m =
        let made : List Plain = more_runs wanted x runs in
        let is : b ≡ bag (listed made) = elim (Member-cases (Member-when (is_live x) (bag (listed made) ∷ []) m).1) [ inl e ↦ e | inr n ↦ elim n [ ] ] in
        is ∙ sym (ap (λ l. bag (listed l)) (ap (λ z. items_of (first_part z)) is ∙ items_of-listed made))
