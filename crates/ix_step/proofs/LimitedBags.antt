-- Of so many runs side by side: bags or a first run above a room in which the bag has place of a node that becomes done put
-- the node above the limit.
use Rattle.std.proofs.Common.{◌≢◌, ◌==◌, ◌&&◌, not, eq-eqb, ne_eqb, eqb-true, true≢false, ◌≡◌, ℕ, ◌<◌, ◌≤◌, ◌+◌, Bool, true, false, List, [], ◌∷◌, length, flat_map, Some, None, refl, sym, ap, ◌∙◌, subst, arith}
use Rattle.std.specs.List.{list_any, list_all}
use Rattle.ix_words.specs.Each.{Each}
use Rattle.ix_words.specs.Canon.{canon}
use Rattle.ix_words.proofs.Each.{Each-member, Each-members}
use Rattle.ix_words.proofs.Canon.{canon-members}
use Rattle.ix_values.specs.PlainAction.{PlainAction}
use Rattle.ix_expr.specs.Environment.{Environment}
use Rattle.ix_expr.specs.Form.{Form, times}
use Rattle.ix_tree.specs.Order.{tree_cmp, first_part}
use Rattle.ix_tree.specs.Plain.{Plain, listed, items_of, times as times_of}
use Rattle.ix_tree.specs.Size.{size_of}
use Rattle.ix_tree.specs.lemmas.TreeOrder.{tree_order}
use Rattle.ix_tree.proofs.PlainLists.{items_of-listed}
use Rattle.ix_can.specs.Nodes.{is_done, settled_times}
use Rattle.ix_can.specs.Ways.{is_empty}
use Rattle.ix_step.specs.inside.Makes.{put_all}
use Rattle.ix_step.specs.inside.MovedNode.{moved_node}
use Rattle.ix_step.specs.inside.Moves.{begun_again}
use Rattle.ix_step.specs.inside.ParallelMoves.{bag_moves, full_runs, has_room}
use Rattle.ix_step.specs.inside.Pruned.{pruned}
use Rattle.ix_step.proofs.Gathered.{put_all-nothing}
use Rattle.ix_step.proofs.Gathering.{IsBag, bags_are, first_over, made_set}
use Rattle.ix_step.proofs.Overs.{and_none, times_over}

-- where any number of runs is wanted, each bag has room
pub some_bag : (bs : List Plain) → 0 < length bs → list_any (λ b. has_room None (items_of (first_part b))) bs ≡ true
some_bag [] some = absurd (omega arith)
some_bag (b ∷ bs) some = refl

module _ (n : ℕ) (y : Form) (e : Environment) (a : PlainAction) (bags : List Plain) (limit room : ℕ) (le : limit ≤ room) (few : n + 1 ≤ room) where
  each_bag : Each IsBag (put_all (flat_map (bag_moves (Some n) y e a) bags) [])
  each_bag =
      let all : List Plain = flat_map (bag_moves (Some n) y e a) bags in
      subst (Each IsBag) (sym (put_all-nothing all))
      (Each-members (canon tree_cmp all) (λ b m. Each-member (bags_are (Some n) y e a bags) ((canon-members tree_order all).to b m)))

  -- the set of bags is above the room
  pub limited_over : room < size_of (listed (put_all (flat_map (bag_moves (Some n) y e a) bags) [])) → limit < size_of (pruned (moved_node (times n y) e (times_of (listed bags)) a))
  limited_over lt =
      let all : List Plain = flat_map (bag_moves (Some n) y e a) bags in
      subst (λ l. limit < size_of (pruned (settled_times n l))) (made_set (bag_moves (Some n) y e a) bags)
      (times_over limit room n (put_all all []) each_bag few le lt)

  -- a first run is, where some bag has room for one
  pub limited_first_over : (some : Bool) → some ≡ list_any (λ b. has_room (Some n) (items_of (first_part b))) bags → room < size_of (begun_again some y e a) → limit < size_of (pruned (moved_node (times n y) e (times_of (listed bags)) a))
  limited_first_over false is lt = absurd (omega arith)
  limited_first_over true is lt =
      let test : Plain → Bool = λ b. has_room (Some n) (items_of (first_part b)) in
      let above = first_over (Some n) room y e a (items_of (listed bags)) (ap (list_any test) (items_of-listed bags) ∙ sym is) (omega arith) lt in
      limited_over (subst (λ l. room < size_of l) (sym (made_set (bag_moves (Some n) y e a) bags)) above)

-- Whether the runs of a bag are full

-- there is none
pub no_run_full : (n : ℕ) (xs : List Plain) → (length xs == 0) ≡ true → false ≡ full_runs n (items_of (listed xs))
no_run_full n [] none = refl
no_run_full n (x ∷ xs) none = let e : length (x ∷ xs) ≡ 0 = eqb-true (length (x ∷ xs)) 0 none in absurd (omega arith)

-- there are more or fewer
pub other_number_full : (n : ℕ) (xs : List Plain) → length xs ≢ n → false ≡ full_runs n (items_of (listed xs))
other_number_full n xs other =
    let differs : (length (items_of (listed xs)) == n) ≡ false = ne_eqb (length (items_of (listed xs))) n (λ e. other (sym (ap length (items_of-listed xs)) ∙ e)) in
    sym (ap (λ b. not (is_empty (items_of (listed xs))) && (b && list_all is_done (items_of (listed xs)))) differs ∙ and_none (not (is_empty (items_of (listed xs)))))

-- or it is asked of each
pub all_done_full : (n : ℕ) (xs : List Plain) {r : Bool} → (length xs == 0) ≡ false → length xs ≡ n → r ≡ list_all is_done (items_of (listed xs)) → r ≡ full_runs n (items_of (listed xs))
all_done_full n [] some many is = absurd (true≢false some)
all_done_full n (x ∷ xs) some many is =
    let runs : List Plain = items_of (listed (x ∷ xs)) in
    is ∙ sym (ap (λ b. b && list_all is_done runs) (eq-eqb (length runs) n (ap length (items_of-listed (x ∷ xs)) ∙ many)))
