-- The moved tree is the node of what its parts become, dead where none of them is live and done where it is spent.
use Rattle.std.proofs.Common.{Option, ◌≡◌, ℕ, Bool, true, false, not, ◌&&◌, ◌||◌, List, [], ◌∷◌, ◌++◌, flat_map, filter, cond, append_assoc, Some, None, refl, sym, ap, ◌∙◌, true≢false, if◌then◌else◌}
use Rattle.std.specs.List.{list_any, list_all}
use Rattle.ix_words.specs.Canon.{canon, when}
use Rattle.ix_values.specs.PlainAction.{PlainAction}
use Rattle.ix_expr.specs.Form.{Form, atom, opt, seq, star, par, par_star, or, and, couple, any, every, sync, all, times}
use Rattle.ix_expr.specs.Environment.{Environment, bind}
use Rattle.ix_expr.specs.Fitting.{FitsInside}
use Rattle.ix_expr.specs.FormFaults.{Fits}
use Rattle.ix_expr.proofs.Parts.{fits-operands}
use Rattle.ix_tree.specs.Plain.{Plain, dead, start, done, is_dead, listed, items_of, pair, bag, entry, opt as opt_of, seq as seq_of, star as star_of, par as par_of, par_star as par_star_of, or as or_of, and as and_of, couple as couple_of, any as any_of, every as every_of, sync as sync_of, all as all_of, times as times_of, none}
use Rattle.ix_tree.specs.Order.{tree_cmp, key, first_part, second_part}
use Rattle.ix_can.specs.Nodes.{is_done, is_live, is_open, unless_done, same_tree, set_of, live, dead_if, done_if, only_bag_done, settled, settled_times, seq_parts}
use Rattle.ix_can.specs.TreeOf.{is_final, tree_of}
use Rattle.ix_can.specs.Ways.{is_empty}
use Rattle.ix_can.specs.May.{may, may_first, tree_at}
use Rattle.ix_can.specs.inside.Moved.{moved, picks, entry_with, or_initial}
use Rattle.ix_can.proofs.Children.{any_made}
use Rattle.ix_words.proofs.Deciding.{one_test}
use Rattle.ix_can.proofs.MovesShared.{moved_live, first_may}
use Rattle.ix_can.proofs.MovesTell.{each_step}
use Rattle.ix_can.proofs.Nodes.{never_dead, same_is, same_from}
use Rattle.ix_can.proofs.Spent.{Kind, is_the_dead, is_the_done, stays_open, kind, dead_is, open_live, open_not_done, final_done, any_ended}
use Rattle.ix_expr.specs.Tests.{accepts_empty}
use Rattle.ix_step.specs.inside.BegunSequence.{begun_seq}
use Rattle.ix_step.specs.inside.Initial.{initial_tree}
use Rattle.ix_step.specs.inside.MapsAfter.{maps_after, map_after, begun_tree, with_tree}
use Rattle.ix_step.specs.inside.MovedNode.{moved_node}
use Rattle.ix_step.specs.inside.Moves.{if_open, open_moves, some_ends, begun, begun_again, second_parts, last_runs, runs_end}
use Rattle.ix_step.specs.inside.ParallelMoves.{pair_moves, pick_move, pick_moves, bag_moves, more_runs, runs_with, begun_runs, has_room}
use Rattle.ix_step.specs.inside.Pruned.{passes, is_none, has_died, pruned}
use Rattle.ix_step.proofs.Beginnings.{initial_open, initial_is}
use Rattle.ix_step.proofs.Gathered.{any_of_set, or_assoc, or_false}

-- Tests

not_not : (b : Bool) → not (not b) ≡ b
not_not true = refl
not_not false = refl

neither : (b c : Bool) → (not b && not c) ≡ not (b || c)
neither true c = refl
neither false c = refl

neither_back : (b c : Bool) → (not c && not b) ≡ not (b || c)
neither_back true true = refl
neither_back true false = refl
neither_back false true = refl
neither_back false false = refl

and_true : (b : Bool) → (b && true) ≡ b
and_true true = refl
and_true false = refl

-- what counts only where the first test holds is compared there
only_where : (b : Bool) {c d : Bool} → (b ≡ true → c ≡ d) → (b && c) ≡ (b && d)
only_where true h = h refl
only_where false h = refl

both_are : (a b c d : Bool) → a ≡ c → b ≡ d → (a && b) ≡ (c && d)
both_are a b c d f g = ap (λ x. x && b) f ∙ ap (λ x. c && x) g

-- Lists with nothing in them

module _ {A : Type 0} where
  empty_both : (us vs : List A) → is_empty (us ++ vs) ≡ (is_empty us && is_empty vs)
  empty_both [] vs = refl
  empty_both (u ∷ us) vs = refl

  empty_when : (b : Bool) (x : A) → is_empty (when b (x ∷ [])) ≡ not b
  empty_when true x = refl
  empty_when false x = refl

  empty_says : (xs : List A) → is_empty xs ≡ not (list_any (λ x. true) xs)
  empty_says [] = refl
  empty_says (x ∷ xs) = refl

module _ {A B : Type 0} (test : A → Bool) (make : A → List B) (says : (x : A) → is_empty (make x) ≡ not (test x)) where
  -- nothing is made exactly where none passes the test
  none_made : (xs : List A) → is_empty (flat_map make xs) ≡ not (list_any test xs)
  none_made [] = refl
  none_made (x ∷ xs) =
      empty_both (make x) (flat_map make xs)
      ∙ both_are (is_empty (make x)) (is_empty (flat_map make xs)) (not (test x)) (not (list_any test xs)) (says x) (none_made xs)
      ∙ neither (test x) (list_any test xs)

listed_none : (xs : List Plain) → is_none (listed xs) ≡ is_empty xs
listed_none [] = refl
listed_none (x ∷ xs) = refl

-- a set has no item exactly where nothing is put into it
set_none : (xs : List Plain) → is_none (set_of xs) ≡ is_empty xs
set_none xs =
    listed_none (canon tree_cmp xs) ∙ empty_says (canon tree_cmp xs)
    ∙ ap not (any_of_set (λ x. true) xs) ∙ sym (empty_says xs)

-- nor does one of two lots
sets_none : (us vs : List Plain) → is_none (set_of (us ++ vs)) ≡ (is_empty us && is_empty vs)
sets_none us vs = set_none (us ++ vs) ∙ empty_both us vs

-- Moved parts

lives : (b : Bool) (t : Plain) → b ≡ true → dead_if (not b) t ≡ t
lives true t h = refl
lives false t h = absurd (true≢false (sym h))

atom_done : (b : Bool) → b ≡ true → (if b then done else dead) ≡ done
atom_done true h = refl
atom_done false h = absurd (true≢false (sym h))

-- What is listed of trees where they are live, and what it holds of the open and of the done

and_none : (b : Bool) → (b && false) ≡ false
and_none true = refl
and_none false = refl

open_after : (t : Plain) (xs : List Plain) → filter is_open (live t ++ xs) ≡ if_open t ++ filter is_open xs
open_after dead xs = refl
open_after done xs = refl
open_after _ xs = refl

done_after : (t : Plain) (xs : List Plain) → list_any is_done (live t ++ xs) ≡ (is_done t || list_any is_done xs)
done_after dead xs = refl
done_after done xs = refl
done_after _ xs = refl

live_after : (t : Plain) (xs : List Plain) → list_all is_live (live t ++ xs) ≡ list_all is_live xs
live_after dead xs = refl
live_after done xs = refl
live_after _ xs = refl

open_alone : (t : Plain) → filter is_open (live t) ≡ if_open t
open_alone dead = refl
open_alone done = refl
open_alone _ = refl

done_alone : (t : Plain) → list_any is_done (live t) ≡ is_done t
done_alone dead = refl
done_alone done = refl
done_alone _ = refl

live_alone : (t : Plain) → list_all is_live (live t) ≡ true
live_alone dead = refl
live_alone done = refl
live_alone _ = refl

module _ (f : Plain → Plain) (tail : List Plain) where
  opens : (us : List Plain) → filter is_open (flat_map (λ u. live (f u)) us ++ tail) ≡ flat_map (λ u. if_open (f u)) us ++ filter is_open tail
  opens [] = refl
  opens (u ∷ us) =
      let rest : List Plain = flat_map (λ v. live (f v)) us in
      ap (filter is_open) (append_assoc (live (f u)) rest tail) ∙ open_after (f u) (rest ++ tail) ∙ ap (λ l. if_open (f u) ++ l) (opens us)
      ∙ sym (append_assoc (if_open (f u)) (flat_map (λ v. if_open (f v)) us) (filter is_open tail))

  dones : (us : List Plain) → list_any is_done (flat_map (λ u. live (f u)) us ++ tail) ≡ (list_any (λ u. is_done (f u)) us || list_any is_done tail)
  dones [] = refl
  dones (u ∷ us) =
      let rest : List Plain = flat_map (λ v. live (f v)) us in
      ap (list_any is_done) (append_assoc (live (f u)) rest tail) ∙ done_after (f u) (rest ++ tail) ∙ ap (λ b. is_done (f u) || b) (dones us)
      ∙ or_assoc (is_done (f u)) (list_any (λ v. is_done (f v)) us) (list_any is_done tail)

  all_live : (us : List Plain) → list_all is_live (flat_map (λ u. live (f u)) us ++ tail) ≡ list_all is_live tail
  all_live [] = refl
  all_live (u ∷ us) =
      let rest : List Plain = flat_map (λ v. live (f v)) us in
      ap (list_all is_live) (append_assoc (live (f u)) rest tail) ∙ live_after (f u) (rest ++ tail) ∙ all_live us

-- of live trees none is left exactly where none passes a test that the done pass, and none is open
module _ (test : Plain → Bool) (passes_done : test done ≡ true) where
  none_left : (xs : List Plain) → list_all is_live xs ≡ true → (not (list_any test xs) && is_none (set_of (filter is_open xs))) ≡ is_empty xs
  none_left [] h = refl
  none_left (x ∷ xs) h = by_kind (kind x)
    where
      by_kind : Kind x → (not (list_any test (x ∷ xs)) && is_none (set_of (filter is_open (x ∷ xs)))) ≡ false
      by_kind (is_the_dead e) = absurd (true≢false (sym h ∙ ap (λ t. is_live t && list_all is_live xs) e))
      by_kind (is_the_done e) = ap (λ b. not (b || list_any test xs) && is_none (set_of (filter is_open (x ∷ xs)))) (ap test e ∙ passes_done)
      by_kind (stays_open o l n) =
          ap (λ b. not (list_any test (x ∷ xs)) && b) (set_none (filter is_open (x ∷ xs)) ∙ ap (λ b. is_empty (cond b (x ∷ filter is_open xs) (filter is_open xs))) o)
          ∙ and_none (not (list_any test (x ∷ xs)))

-- The beginning of a second part

first_open : (b : Bool) (x : Form) → filter is_open (when b (initial_tree x ∷ [])) ≡ when b (initial_tree x ∷ [])
first_open true x = ap (λ b. cond b (initial_tree x ∷ []) []) (initial_open x)
first_open false x = refl

first_not_done : (b : Bool) (x : Form) → list_any is_done (when b (initial_tree x ∷ [])) ≡ false
first_not_done true x = ap (λ b. b || false) (open_not_done (initial_tree x) (initial_open x))
first_not_done false x = refl

first_live : (b : Bool) (x : Form) → list_all is_live (when b (initial_tree x ∷ [])) ≡ true
first_live true x = ap (λ b. not b && true) (open_live (initial_tree x) (initial_open x))
first_live false x = refl

again_live : (b : Bool) (x : Form) (e : Environment) (a : PlainAction) → when b (live (begun x e a)) ≡ live (begun_again b x e a)
again_live true x e a = refl
again_live false x e a = refl

-- a dead tree isn't final
dead_not_final : (x : Form) (t : Plain) → is_dead t ≡ true → is_final x t ≡ false
dead_not_final x t d = ap (is_final x) (dead_is t d) ∙ never_dead x

-- beside a dead common tree a value has an entry exactly where its tree is live
entry_lives : (common : Plain) (v : List ℕ) (t : Plain) → is_dead common ≡ true → is_empty (entry_with common v t) ≡ not (is_live t)
entry_lives common v t d =
    empty_when (not (same_tree t common)) (entry v t)
    ∙ ap (λ b. not (not b)) (ap (same_tree t) (dead_is common d) ∙ one_test (same_tree t dead) (is_dead t) (λ s. ap is_dead (same_is t dead s), λ k. same_from t dead (dead_is t k)))

module _ (x : Form) (e : Environment) (a : PlainAction) where
  -- a part is dead exactly where the action may not come next
  died : (t : Plain) → not (may x e t a) ≡ is_dead (moved x e t a)
  died t = ap not (sym (moved_live x e t a)) ∙ not_not (is_dead (moved x e t a))

  unmoved : (t : Plain) → not (is_live (moved x e t a)) ≡ not (may x e t a)
  unmoved t = ap not (moved_live x e t a)

  -- the moved trees that are live
  abbrev live_moves : List Plain → List Plain
  live_moves ts = flat_map (λ t. live (moved x e t a)) ts

  none_moved : (ts : List Plain) → is_empty (live_moves ts) ≡ not (list_any (λ t. may x e t a) ts)
  none_moved = none_made (λ t. may x e t a) (λ t. live (moved x e t a)) (λ t. empty_when (is_live (moved x e t a)) (moved x e t a) ∙ unmoved t)

  -- the first action may come exactly where it moves the tree of the empty word
  begins : Fits x e → is_live (begun x e a) ≡ may_first x e a
  begins f =
      let k = each_step x e a f in
      moved_live x e (tree_of x [] []) a ∙ sym (first_may x e [] a k.first k.next)

  begins_again : (again : Bool) → Fits x e → is_live (begun_again again x e a) ≡ (again && may_first x e a)
  begins_again true f = begins f
  begins_again false f = refl

-- Forms: where none of its parts moves

module _ (y z : Form) (e : Environment) (a : PlainAction) where
  -- the live alternatives for the second part, m being the moved first part
  abbrev seconds : Plain → List Plain → List Plain
  seconds m us = live_moves z e a us ++ when (is_final y m) (initial_tree z ∷ [])

  -- what is made of them
  seq_is : (m : Plain) (us : List Plain) → seq_parts m (seconds m us) ≡ seq_of (unless_done m) (some_ends z e a us) (set_of (second_parts y z e a m us))
  seq_is m us =
      let begins : List Plain = when (is_final y m) (initial_tree z ∷ []) in
      let ended : list_any is_done (seconds m us) ≡ some_ends z e a us = dones (λ s. moved z e s a) begins us ∙ ap (λ b. some_ends z e a us || b) (first_not_done (is_final y m) z) ∙ or_false (some_ends z e a us) in
      let opened : filter is_open (seconds m us) ≡ second_parts y z e a m us = opens (λ s. moved z e s a) begins us ∙ ap (λ l. open_moves z e a us ++ l) (first_open (is_final y m) z) in
      (λ i. seq_of (unless_done m) (ended i) (set_of (opened i)))

  -- a first part that is done has let the second begin
  begun_second : (m : Plain) (us : List Plain) → (is_dead m && is_empty (seconds m us)) ≡ (is_dead (unless_done m) && is_empty (seconds m us))
  begun_second m us = by_kind (kind m)
    where
      by_kind : Kind m → (is_dead m && is_empty (seconds m us)) ≡ (is_dead (unless_done m) && is_empty (seconds m us))
      by_kind (is_the_dead d) = ap (λ t. is_dead t && is_empty (seconds m us)) d ∙ sym (ap (λ t. is_dead (unless_done t) && is_empty (seconds m us)) d)
      by_kind (is_the_done d) =
          let filled : is_empty (seconds m us) ≡ false = empty_both (live_moves z e a us) (when (is_final y m) (initial_tree z ∷ []))
          ∙ ap (λ b. is_empty (live_moves z e a us) && is_empty (when b (initial_tree z ∷ []))) (ap (is_final y) d ∙ final_done y)
          ∙ and_none (is_empty (live_moves z e a us)) in
          ap (λ b. is_dead m && b) filled ∙ and_none (is_dead m) ∙ sym (ap (λ b. is_dead (unless_done m) && b) filled ∙ and_none (is_dead (unless_done m)))
      by_kind (stays_open o l n) = ap (λ b. is_dead (if b then dead else m) && is_empty (seconds m us)) (sym n)

  seq_died : (t : Plain) (us : List Plain) → not (may y e t a || list_any (λ s. may z e s a) us) ≡ has_died (seq_parts (moved y e t a) (seconds (moved y e t a) us))
  seq_died t us =
      let m : Plain = moved y e t a in
      let some : Bool = list_any (λ s. may z e s a) us in
      let begins : List Plain = when (is_final y m) (initial_tree z ∷ []) in
      sym (neither (may y e t a) some)
      ∙ ap (λ b. b && not some) (died y e a t)
      ∙ only_where (is_dead m) (λ d.
      sym (and_true (not some))
      ∙ ap (λ b. not some && not b) (sym (dead_not_final y m d))
      ∙ both_are (not some) (not (is_final y m)) (is_empty (live_moves z e a us)) (is_empty begins) (sym (none_moved z e a us)) (sym (empty_when (is_final y m) (initial_tree z)))
      ∙ sym (empty_both (live_moves z e a us) begins))
      ∙ begun_second m us
      ∙ ap (λ b. is_dead (unless_done m) && b) (sym (none_left is_done refl (seconds m us) (all_live (λ s. moved z e s a) begins us ∙ first_live (is_final y m) z)))

  none_paired : (p : Plain) → is_empty (pair_moves y z e a p) ≡ not (may y e (first_part p) a || may z e (second_part p) a)
  none_paired p =
      let x : Plain = first_part p in
      let u : Plain = second_part p in
      let left : Plain = moved y e (first_part p) a in
      let right : Plain = moved z e (second_part p) a in
      empty_both (when (is_live left) (pair left u ∷ [])) (when (is_live right) (pair x right ∷ []))
      ∙ both_are (is_empty (when (is_live left) (pair left u ∷ []))) (is_empty (when (is_live right) (pair x right ∷ []))) (not (may y e x a)) (not (may z e u a))
      (empty_when (is_live left) (pair left u) ∙ unmoved y e a x) (empty_when (is_live right) (pair x right) ∙ unmoved z e a u)
      ∙ neither (may y e x a) (may z e u a)

  par_died : (ps : List Plain) → not (list_any (λ p. may y e (first_part p) a || may z e (second_part p) a) ps) ≡ is_none (set_of (flat_map (pair_moves y z e a) ps))
  par_died ps =
      sym (none_made (λ p. may y e (first_part p) a || may z e (second_part p) a) (pair_moves y z e a) none_paired ps)
      ∙ sym (set_none (flat_map (pair_moves y z e a) ps))

  or_died : (t u : Plain) → not (may y e t a || may z e u a) ≡ (is_dead (moved y e t a) && is_dead (moved z e u a))
  or_died t u =
      sym (neither (may y e t a) (may z e u a))
      ∙ both_are (not (may y e t a)) (not (may z e u a)) (is_dead (moved y e t a)) (is_dead (moved z e u a)) (died y e a t) (died z e a u)

picked : (test : Plain → Bool) (ts : List Plain) → list_any (λ p. test p.0) (picks ts) ≡ list_any test ts
picked test [] = refl
picked test (t ∷ ts) =
    ap (λ b. test t || b) (sym (any_made (λ (p : Plain × List Plain). test p.0) (λ (p : Plain × List Plain). (p.0, t ∷ p.1)) (λ (p : Plain × List Plain). test p.0) (λ p. refl) (picks ts)) ∙ picked test ts)

module _ (y : Form) (e : Environment) (a : PlainAction) (f : Fits y e) where
  -- the live alternatives for the last run
  abbrev runs : Bool → List Plain → List Plain
  runs again us = live_moves y e a us ++ live (begun_again again y e a)

  -- what is made of them
  star_is : (again : Bool) (us : List Plain) → star_of (list_any (is_final y) (runs again us)) (set_of (filter is_open (runs again us))) ≡ star_of (runs_end y e a again us) (set_of (last_runs y e a again us))
  star_is again us =
      let first : Plain = begun_again again y e a in
      let ended : list_any is_done (runs again us) ≡ (some_ends y e a us || is_done first) = dones (λ s. moved y e s a) (live first) us ∙ ap (λ b. some_ends y e a us || b) (done_alone first) in
      let opened : filter is_open (runs again us) ≡ last_runs y e a again us = opens (λ s. moved y e s a) (live first) us ∙ ap (λ l. open_moves y e a us ++ l) (open_alone first) in
      ap (λ b. star_of b (set_of (filter is_open (runs again us)))) (sym (any_ended (is_final y) (never_dead y) (final_done y) (runs again us)))
      ∙ (λ i. star_of (ended i || list_any (is_final y) (opened i)) (set_of (opened i)))

  star_died : (again : Bool) (us : List Plain) → not ((again && may_first y e a) || list_any (λ s. may y e s a) us) ≡ has_died (star_of (list_any (is_final y) (runs again us)) (set_of (filter is_open (runs again us))))
  star_died again us =
      let first : Plain = begun_again again y e a in
      let begin : Bool = again && may_first y e a in
      let some : Bool = list_any (λ s. may y e s a) us in
      sym (neither_back begin some)
      ∙ both_are (not some) (not begin) (is_empty (live_moves y e a us)) (is_empty (live first)) (sym (none_moved y e a us)) (ap not (sym (begins_again y e a again f)) ∙ sym (empty_when (is_live first) first))
      ∙ sym (empty_both (live_moves y e a us) (live first))
      ∙ sym (none_left (is_final y) (final_done y) (runs again us) (all_live (λ s. moved y e s a) (live first) us ∙ live_alone first))

  module _ (wanted : Option ℕ) where
    none_picked : (ts : List Plain) → is_empty (pick_moves wanted y e a ts) ≡ not (list_any (λ s. may y e s a) ts)
    none_picked ts =
        none_made (λ (p : Plain × List Plain). may y e p.0 a) (pick_move wanted y e a) (λ p. empty_when (is_live (moved y e p.0 a)) (bag (listed (more_runs wanted (moved y e p.0 a) p.1))) ∙ unmoved y e a p.0) (picks ts)
        ∙ ap not (picked (λ s. may y e s a) ts)

    none_begun : (ts : List Plain) → is_empty (begun_runs wanted (begun y e a) ts) ≡ not (has_room wanted ts && may_first y e a)
    none_begun ts = by_test (has_room wanted ts)
      where
        by_test : (b : Bool) → is_empty (when b (runs_with wanted (begun y e a) ts)) ≡ not (b && may_first y e a)
        by_test true = empty_when (is_live (begun y e a)) (bag (listed (more_runs wanted (begun y e a) ts))) ∙ ap not (begins y e a f)
        by_test false = refl

    none_bagged : (b : Plain) → is_empty (bag_moves wanted y e a b) ≡ not ((has_room wanted (items_of (first_part b)) && may_first y e a) || list_any (λ s. may y e s a) (items_of (first_part b)))
    none_bagged b =
        let ts : List Plain = items_of (first_part b) in
        let some : Bool = list_any (λ s. may y e s a) ts in
        let first : Bool = has_room wanted ts && may_first y e a in
        empty_both (pick_moves wanted y e a ts) (begun_runs wanted (begun y e a) ts)
        ∙ both_are (is_empty (pick_moves wanted y e a ts)) (is_empty (begun_runs wanted (begun y e a) ts)) (not some) (not first) (none_picked ts) (none_begun ts)
        ∙ neither_back first some

    bags_died : (bs : List Plain) → not (list_any (λ b. (has_room wanted (items_of (first_part b)) && may_first y e a) || list_any (λ s. may y e s a) (items_of (first_part b))) bs) ≡ is_none (set_of (flat_map (bag_moves wanted y e a) bs))
    bags_died bs =
        sym (none_made (λ b. (has_room wanted (items_of (first_part b)) && may_first y e a) || list_any (λ s. may y e s a) (items_of (first_part b))) (bag_moves wanted y e a) none_bagged bs)
        ∙ sym (set_none (flat_map (bag_moves wanted y e a) bs))

-- the node of `times` is dead where it has no bag, and done where it is spent
pruned_times : (n : ℕ) (s : Plain) → pruned (settled_times n s) ≡ dead_if (is_none s) (settled_times n s)
pruned_times n s = by_test (only_bag_done n (items_of s)) refl
  where
    some_bag : (t : Plain) → only_bag_done n (items_of t) ≡ true → is_none t ≡ false
    some_bag none e = absurd (true≢false (sym e))
    some_bag _ e = refl

    by_test : (b : Bool) → only_bag_done n (items_of s) ≡ b → pruned (done_if b (times_of s)) ≡ dead_if (is_none s) (done_if b (times_of s))
    by_test false e = refl
    by_test true e = sym (ap (λ c. dead_if c done) (some_bag s e))

module _ (p : List ℕ) (y : Form) (e : Environment) (a : PlainAction) where
  -- the entries of the values of a dead common tree
  module _ (common next : Plain) (xs : List Plain) where
    abbrev own_test : Plain → Bool
    own_test x = may y (bind p (Some (key x)) e) (first_part x) a

    abbrev own_entry : Plain → List Plain
    own_entry x = entry_with next (key x) (moved y (bind p (Some (key x)) e) (first_part x) a)

    abbrev value_test : List ℕ → Bool
    value_test v = may y (bind p (Some v) e) (tree_at v common xs) a

    abbrev value_entry : List ℕ → List Plain
    value_entry v = entry_with next v (moved y (bind p (Some v) e) (tree_at v common xs) a)

    none_entered : is_dead next ≡ true → not (list_any own_test xs || list_any value_test a.values) ≡ is_none (set_of (flat_map own_entry xs ++ flat_map value_entry a.values))
    none_entered d =
        sym (neither (list_any own_test xs) (list_any value_test a.values))
        ∙ both_are (not (list_any own_test xs)) (not (list_any value_test a.values)) (is_empty (flat_map own_entry xs)) (is_empty (flat_map value_entry a.values))
        (sym (none_made own_test own_entry (λ x. entry_lives next (key x) (moved y (bind p (Some (key x)) e) (first_part x) a) d ∙ unmoved y (bind p (Some (key x)) e) a (first_part x)) xs))
        (sym (none_made value_test value_entry (λ v. entry_lives next v (moved y (bind p (Some v) e) (tree_at v common xs) a) d ∙ unmoved y (bind p (Some v) e) a (tree_at v common xs)) a.values))
        ∙ sym (sets_none (flat_map own_entry xs) (flat_map value_entry a.values))

  any_died : (common : Plain) (xs : List Plain) →
      not (may y (bind p None e) common a || (list_any (λ x. may y (bind p (Some (key x)) e) (first_part x) a) xs || list_any (λ v. may y (bind p (Some v) e) (tree_at v common xs) a) a.values))
      ≡ (is_dead (moved y (bind p None e) common a) && is_none (set_of (flat_map (λ x. entry_with (moved y (bind p None e) common a) (key x) (moved y (bind p (Some (key x)) e) (first_part x) a)) xs
      ++ flat_map (λ v. entry_with (moved y (bind p None e) common a) v (moved y (bind p (Some v) e) (tree_at v common xs) a)) a.values)))
  any_died common xs =
      let next : Plain = moved y (bind p None e) common a in
      let some : Bool = list_any (own_test common next xs) xs || list_any (value_test common next xs) a.values in
      sym (neither (may y (bind p None e) common a) some)
      ∙ ap (λ b. b && not some) (died y (bind p None e) a common)
      ∙ only_where (is_dead next) (none_entered common next xs)

  -- whether the value of the map goes on, or begins where it has no live tree
  abbrev owner_test : Plain → List ℕ → Bool
  owner_test m v = if is_dead (tree_at v dead (items_of (first_part m))) then may_first y (bind p (Some v) e) a else may y (bind p (Some v) e) (tree_at v dead (items_of (first_part m))) a

  module _ (f : FitsInside p y e) where
    owner_lives : (v : List ℕ) (t : Plain) → is_live (moved y (bind p (Some v) e) (or_initial (initial_tree y) t) a) ≡ (if is_dead t then may_first y (bind p (Some v) e) a else may y (bind p (Some v) e) t a)
    owner_lives v t = chosen (is_dead t)
      where
        chosen : (b : Bool) → is_live (moved y (bind p (Some v) e) (if b then initial_tree y else t) a) ≡ (if b then may_first y (bind p (Some v) e) a else may y (bind p (Some v) e) t a)
        chosen true = ap (λ u. is_live (moved y (bind p (Some v) e) u a)) (sym (initial_is y [])) ∙ begins y (bind p (Some v) e) a (f.body (Some v))
        chosen false = moved_live y (bind p (Some v) e) t a

    none_owned : (m : Plain) (v : List ℕ) → is_empty (map_after p y e a (initial_tree y) m v) ≡ not (owner_test m v)
    none_owned m v =
        let x : Plain = begun_tree p y e a (initial_tree y) m v in
        empty_when (is_live x) (with_tree (initial_tree y) v x (items_of (first_part m)))
        ∙ ap not (owner_lives v (tree_at v dead (items_of (first_part m))))

    all_died : (ms : List Plain) → not (list_any (λ m. list_any (owner_test m) a.values) ms) ≡ is_none (set_of (flat_map (maps_after p y e a (initial_tree y) a.values) ms))
    all_died ms =
        sym (none_made (λ m. list_any (owner_test m) a.values) (maps_after p y e a (initial_tree y) a.values) (λ m. none_made (owner_test m) (map_after p y e a (initial_tree y) m) (none_owned m) a.values) ms)
        ∙ sym (set_none (flat_map (maps_after p y e a (initial_tree y) a.values) ms))

-- Each form

pub moved_is : (x : Form) (e : Environment) (t : Plain) (a : PlainAction) → Fits x e → passes x e t a ≡ true → moved x e t a ≡ pruned (moved_node x e t a)
moved_is (atom x) e start a f h = atom_done (may (atom x) e start a) h
moved_is (opt y) e (opt_of b t) a f h = ap (λ d. dead_if d (settled (opt_of false (moved y e t a)))) (died y e a t)
moved_is (seq y z) e (seq_of t ended rest) a f h =
    let m : Plain = moved y e t a in
    let us : List Plain = items_of rest in
    ap (λ u. dead_if (not (may (seq y z) e (seq_of t ended rest) a)) (settled (seq_parts (moved y e t a) (live_moves z e a (items_of rest) ++ when (is_final y (moved y e t a)) (u ∷ []))))) (initial_is z [])
    ∙ ap (λ d. dead_if d (settled (seq_parts (moved y e t a) (seconds y z e a (moved y e t a) (items_of rest))))) (seq_died y z e a t us)
    ∙ ap pruned (seq_is y z e a m us)
moved_is (star y) e (star_of again rest) a f h =
    let fits = fits-operands (star y) e f in
    ap (λ more. dead_if (not (may (star y) e (star_of again rest) a)) (star_of (list_any (is_final y) (live_moves y e a (items_of rest) ++ more)) (set_of (filter is_open (live_moves y e a (items_of rest) ++ more))))) (again_live again y e a)
    ∙ ap (λ d. dead_if d (star_of (list_any (is_final y) (live_moves y e a (items_of rest) ++ live (begun_again again y e a))) (set_of (filter is_open (live_moves y e a (items_of rest) ++ live (begun_again again y e a)))))) (star_died y e a fits again (items_of rest))
    ∙ ap pruned (star_is y e a fits again (items_of rest))
moved_is (par y z) e (par_of pairs) a f h = ap (λ d. dead_if d (settled (moved_node (par y z) e (par_of pairs) a))) (par_died y z e a (items_of pairs))
moved_is (par_star y) e (par_star_of bags) a f h =
    ap (λ d. dead_if d (moved_node (par_star y) e (par_star_of bags) a)) (bags_died y e a (fits-operands (par_star y) e f) None (items_of bags))
moved_is (or y z) e (or_of t u) a f h = ap (λ d. dead_if d (settled (moved_node (or y z) e (or_of t u) a))) (or_died y z e a t u)
moved_is (and y z) e (and_of t u) a f h = lives (may (and y z) e (and_of t u) a) _ h
moved_is (couple y z) e (couple_of t u) a f h = lives (may (couple y z) e (couple_of t u) a) _ h
moved_is (any p y) e (any_of common entries) a f h =
    ap (λ d. dead_if d (settled (moved_node (any p y) e (any_of common entries) a))) (any_died p y e a common (items_of entries))
moved_is (every p y) e (every_of common entries) a f h = lives (may (every p y) e (every_of common entries) a) _ h
moved_is (sync p y) e (sync_of common entries) a f h = lives (may (sync p y) e (sync_of common entries) a) _ h
moved_is (all p y) e (all_of maps) a f h =
    ap (λ u. dead_if (not (may (all p y) e (all_of maps) a)) (all_of (set_of (flat_map (maps_after p y e a u a.values) (items_of maps))))) (initial_is y [])
    ∙ ap (λ d. dead_if d (moved_node (all p y) e (all_of maps) a)) (all_died p y e a (fits-operands (all p y) e f) (items_of maps))
moved_is (times n y) e (times_of bags) a f h =
    let moves : Plain = set_of (flat_map (bag_moves (Some n) y e a) (items_of bags)) in
    ap (λ d. dead_if d (settled_times n moves)) (bags_died y e a (fits-operands (times n y) e f) (Some n) (items_of bags))
    ∙ sym (pruned_times n moves)
moved_is _ e _ a f h = refl

-- The one action

-- where it may not come first its tree is dead
pub begun_dead : (x : Form) (e : Environment) (a : PlainAction) → Fits x e → may_first x e a ≡ false → begun x e a ≡ dead
begun_dead x e a f h = dead_is (begun x e a) (dead_here (is_dead (begun x e a)) (begins x e a f ∙ h))
  where
    dead_here : (b : Bool) → not b ≡ false → b ≡ true
    dead_here true h = refl
    dead_here false h = absurd (true≢false h)

-- of a choice it is that of both sides
pub begun_or : (y z : Form) (e : Environment) (a : PlainAction) → Fits (or y z) e → begun (or y z) e a ≡ pruned (or_of (begun y e a) (begun z e a))
begun_or y z e a f =
    ap (λ t. moved (or y z) e t a) (initial_is (or y z) [])
    ∙ moved_is (or y z) e (or_of (initial_tree y) (initial_tree z)) a f refl
    ∙ ap (λ t. pruned (or_of (moved y e t a) (moved z e (initial_tree z) a))) (sym (initial_is y []))
    ∙ ap (λ t. pruned (or_of (begun y e a) (moved z e t a))) (sym (initial_is z []))

-- of `any` it is made of the tree of the empty word without its node
pub begun_any : (p : List ℕ) (y : Form) (e : Environment) (a : PlainAction) → Fits (any p y) e → begun (any p y) e a ≡ pruned (moved_node (any p y) e (any_of (initial_tree y) none) a)
begun_any p y e a f =
    ap (λ t. moved (any p y) e t a) (initial_is (any p y) [])
    ∙ moved_is (any p y) e (any_of (initial_tree y) none) a f refl

-- of a sequence it is made of those of both parts
module _ (z : Form) (e : Environment) (a : PlainAction) where
  second_ends : (b : Bool) → some_ends z e a (items_of (listed (when b (initial_tree z ∷ [])))) ≡ is_done (begun_again b z e a)
  second_ends true = or_false (is_done (moved z e (initial_tree z) a)) ∙ ap (λ t. is_done (moved z e t a)) (sym (initial_is z []))
  second_ends false = refl

  second_opens : (b : Bool) (xs : List Plain) → open_moves z e a (items_of (listed (when b (initial_tree z ∷ [])))) ++ xs ≡ if_open (begun_again b z e a) ++ xs
  second_opens true xs =
      append_assoc (if_open (moved z e (initial_tree z) a)) [] xs
      ∙ ap (λ t. if_open (moved z e t a) ++ xs) (sym (initial_is z []))
  second_opens false xs = refl

pub begun_seq_is : (y z : Form) (e : Environment) (a : PlainAction) → Fits (seq y z) e → begun (seq y z) e a ≡ begun_seq y z e a
begun_seq_is y z e a f =
    ap (λ t. moved (seq y z) e t a) (initial_is (seq y z) [])
    ∙ moved_is (seq y z) e (initial_tree (seq y z)) a f refl
    ∙ ap (λ t. pruned (seq_of (unless_done (moved y e t a)) (some_ends z e a second) (set_of (open_moves z e a second ++ when (is_final y (moved y e t a)) (initial_tree z ∷ []))))) (sym (initial_is y []))
    ∙ ap (λ b. pruned (seq_of (unless_done first) b (set_of (open_moves z e a second ++ begins)))) (second_ends z e a (accepts_empty y))
    ∙ ap (λ l. pruned (seq_of (unless_done first) (is_done (begun_again (accepts_empty y) z e a)) (set_of l))) (second_opens z e a (accepts_empty y) begins)
  where
    second : List Plain
    second = items_of (listed (when (accepts_empty y) (initial_tree z ∷ [])))

    first : Plain
    first = begun y e a

    begins : List Plain
    begins = when (is_final y first) (initial_tree z ∷ [])
