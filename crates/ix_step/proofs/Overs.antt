-- Nodes with a part that is above the limit: they are neither dead nor spent, so they are above it too.
use Rattle.std.proofs.Common.{◌==◌, eqb-true, ◌≡◌, ℕ, ◌+◌, ◌*◌, ◌<◌, ◌≤◌, Bool, true, false, not, ◌&&◌, List, [], ◌∷◌, length, map, refl, sym, ap, ◌∙◌, subst, true≢false, arith, length-append}
use Rattle.std.specs.List.{list_all}
use Rattle.std.specs.Map.{keys_of}
use Rattle.ix_words.specs.Each.{Each}
use Rattle.ix_words.proofs.Each.{Each-head, Each-tail}
use Rattle.ix_values.specs.PlainAction.{PlainAction}
use Rattle.ix_expr.specs.Form.{Form, any as any_form, every as every_form, sync as sync_form}
use Rattle.ix_expr.specs.Environment.{Environment}
use Rattle.ix_tree.specs.Plain.{Plain, more, listed, items_of, opt, seq, star, par, or, and, couple, any, every, sync, times}
use Rattle.ix_tree.specs.PlainOf.{plain_entry, plain_entries}
use Rattle.ix_tree.specs.Order.{key, first_part, second_part}
use Rattle.ix_tree.specs.Size.{size_of}
use Rattle.ix_tree.proofs.PlainLists.{items_of-listed}
use Rattle.ix_can.specs.Nodes.{is_dead, is_done, is_ended, dead_if, done_if, unless_done, only_pair_done, only_bag_done, is_spent, settled, settled_times}
use Rattle.ix_can.specs.Ways.{is_empty}
use Rattle.ix_can.proofs.Spent.{Kind, is_the_dead, is_the_done, stays_open, kind, done_is, open_not_done, open_not_ended}
use Rattle.ix_step.specs.inside.EnterTrees.{entries_put}
use Rattle.ix_step.specs.inside.MovedNode.{moved_node}
use Rattle.ix_step.specs.inside.Pruned.{is_none, has_died, pruned}
use Rattle.ix_step.specs.inside.ValueTrees.{ReadyInside, common_after, tree_after, entries_after, touched}
use Rattle.ix_step.specs.declared.bodies.Reach.{Reach}
use Rattle.ix_step.specs.declared.bodies.Reach.TheVariants.{All, Must, OwnAlphabet}
use Rattle.ix_step.proofs.EntriesPut.{IsOf, put_are, entries_few}
use Rattle.ix_step.proofs.Gathered.{above_open, above_lives}
use Rattle.ix_step.proofs.Gathering.{IsBag}
use Rattle.ix_step.proofs.Pruning.{both_first, both_second}
use Rattle.ix_step.proofs.Quantifying.{entries_touched}

pub and_none : (b : Bool) → (b && false) ≡ false
and_none true = refl
and_none false = refl

module _ (limit : ℕ) (n : Plain) where
  -- a node that isn't spent is above the limit where its Size is
  settled_over : is_spent n ≡ false → limit < size_of n → limit < size_of (settled n)
  settled_over s lt = subst (λ b. limit < size_of (done_if b n)) (sym s) lt

  -- and so is one that isn't dead either
  pruned_over : has_died n ≡ false → is_spent n ≡ false → limit < size_of n → limit < size_of (pruned n)
  pruned_over d s lt = subst (λ b. limit < size_of (dead_if b (settled n))) (sym d) (settled_over s lt)

module _ (limit : ℕ) (positive : 1 ≤ limit) where
  lives : (x : Plain) → limit < size_of x → is_dead x ≡ false
  lives x lt = above_lives limit x positive lt

  starts : (x : Plain) → limit < size_of x → is_done x ≡ false
  starts x lt = open_not_done x (above_open limit x positive lt)

  goes_on : (x : Plain) → limit < size_of x → is_ended x ≡ false
  goes_on x lt = open_not_ended x (above_open limit x positive lt)

  -- a tree above the limit stays where only one that is done doesn't
  pub unless_over : (x : Plain) → limit < size_of x → limit < size_of (unless_done x)
  unless_over x lt = subst (λ b. limit < size_of (dead_if b x)) (sym (starts x lt)) lt

  pub opt_over : (b : Bool) (x : Plain) → limit < size_of x → limit < size_of (pruned (opt b x))
  opt_over b x lt = pruned_over limit (opt b x) (lives x lt) (starts x lt) (omega arith)

  module _ (x y : Plain) where
    pub or_left_over : limit < size_of x → limit < size_of (pruned (or x y))
    or_left_over lt =
        pruned_over limit (or x y) (ap (λ b. b && is_dead y) (lives x lt)) (ap (λ b. b && is_ended y) (goes_on x lt)) (omega arith)

    pub or_right_over : limit < size_of y → limit < size_of (pruned (or x y))
    or_right_over lt =
        pruned_over limit (or x y) (ap (λ b. is_dead x && b) (lives y lt) ∙ and_none (is_dead x)) (ap (λ b. is_ended x && b) (goes_on y lt) ∙ and_none (is_ended x)) (omega arith)

    pub and_left_over : limit < size_of x → limit < size_of (settled (and x y))
    and_left_over lt = settled_over limit (and x y) (ap (λ b. b && is_done y) (starts x lt)) (omega arith)

    pub and_right_over : limit < size_of y → limit < size_of (settled (and x y))
    and_right_over lt = settled_over limit (and x y) (ap (λ b. is_done x && b) (starts y lt) ∙ and_none (is_done x)) (omega arith)

    pub couple_left_over : limit < size_of x → limit < size_of (settled (couple x y))
    couple_left_over lt = settled_over limit (couple x y) (ap (λ b. b && is_done y) (starts x lt)) (omega arith)

    pub couple_right_over : limit < size_of y → limit < size_of (settled (couple x y))
    couple_right_over lt = settled_over limit (couple x y) (ap (λ b. is_done x && b) (starts y lt) ∙ and_none (is_done x)) (omega arith)

  pub seq_over : (x : Plain) (ended : Bool) (xs : List Plain) → limit < size_of x + size_of (listed xs) → limit < size_of (pruned (seq x ended (listed xs)))
  seq_over x ended [] lt =
      let h : limit < size_of x = omega arith in
      pruned_over limit (seq x ended (listed [])) (ap (λ b. b && (not ended && true)) (lives x h)) (ap (λ b. b && true) (lives x h)) (omega arith)
  seq_over x ended (y ∷ ys) lt =
      pruned_over limit (seq x ended (listed (y ∷ ys))) (ap (λ b. is_dead x && b) (and_none (not ended)) ∙ and_none (is_dead x)) (and_none (is_dead x)) (omega arith)

  pub star_over : (again : Bool) (xs : List Plain) → limit < size_of (listed xs) → limit < size_of (pruned (star again (listed xs)))
  star_over again [] lt = absurd (omega arith)
  star_over again (y ∷ ys) lt = pruned_over limit (star again (listed (y ∷ ys))) (and_none (not again)) refl (omega arith)

  pub every_over : (x : Plain) (xs : List Plain) → limit < size_of x + size_of (listed xs) → limit < size_of (settled (every x (listed xs)))
  every_over x [] lt = let h : limit < size_of x = omega arith in settled_over limit (every x (listed [])) (ap (λ b. b && true) (starts x h)) (omega arith)
  every_over x (y ∷ ys) lt = settled_over limit (every x (listed (y ∷ ys))) (and_none (is_done x)) (omega arith)

  pub sync_over : (x : Plain) (xs : List Plain) → limit < size_of x + size_of (listed xs) → limit < size_of (settled (sync x (listed xs)))
  sync_over x [] lt = let h : limit < size_of x = omega arith in settled_over limit (sync x (listed [])) (ap (λ b. b && true) (starts x h)) (omega arith)
  sync_over x (y ∷ ys) lt = settled_over limit (sync x (listed (y ∷ ys))) (and_none (is_done x)) (omega arith)

-- Nodes that are built within more than the limit

parts_size : (t : Plain) → size_of t ≤ 1 + size_of (first_part t) + size_of (second_part t)
parts_size (more x xs) = omega arith
parts_size _ = omega arith

done_size : (t : Plain) → is_done t ≡ true → size_of t ≡ 1
done_size t e = ap size_of (done_is t e)

ended_size : (t : Plain) → is_ended t ≡ true → size_of t ≡ 1
ended_size t e = by_kind (kind t)
  where
    by_kind : Kind t → size_of t ≡ 1
    by_kind (is_the_dead d) = ap size_of d
    by_kind (is_the_done d) = ap size_of d
    by_kind (stays_open o l n) = absurd (true≢false (sym e ∙ open_not_ended t o))

only_pair_size : (xs : List Plain) → only_pair_done xs ≡ true → size_of (listed xs) ≤ 3
only_pair_size [] e = omega arith
only_pair_size (p ∷ []) e =
    let f = done_size (first_part p) (both_first (is_done (first_part p)) (is_done (second_part p)) e) in
    let g = done_size (second_part p) (both_second (is_done (first_part p)) (is_done (second_part p)) e) in
    omega (arith, f, g, parts_size p)
only_pair_size (p ∷ q ∷ xs) e = absurd (true≢false (sym e))

-- alternatives above a room in which one pair has place are no pair that is done
pub par_over : (limit room : ℕ) (xs : List Plain) → 3 ≤ room → limit ≤ room → room < size_of (listed xs) → limit < size_of (pruned (par (listed xs)))
par_over limit room [] few le lt = absurd (omega arith)
par_over limit room (y ∷ ys) few le lt =
    pruned_over limit (par (listed (y ∷ ys))) refl (by_test (is_spent (par (listed (y ∷ ys)))) refl) (omega arith)
  where
    by_test : (b : Bool) → is_spent (par (listed (y ∷ ys))) ≡ b → b ≡ false
    by_test false e = refl
    by_test true e =
        let k = only_pair_size (y ∷ ys) (ap only_pair_done (sym (items_of-listed (y ∷ ys))) ∙ e) in
        absurd (omega (arith, k))

-- trees that are all done have one node each
done_sizes : (xs : List Plain) → list_all is_done xs ≡ true → size_of (listed xs) ≡ length xs
done_sizes [] e = refl
done_sizes (x ∷ xs) e =
    let one = done_size x (both_first (is_done x) (list_all is_done xs) e) in
    let rest = done_sizes xs (both_second (is_done x) (list_all is_done xs) e) in
    omega (arith, one, rest)

full_size : (n : ℕ) (xs : List Plain) → Each IsBag xs → only_bag_done n xs ≡ true → size_of (listed xs) ≤ n + 1
full_size n [] h e = absurd (true≢false (sym e))
full_size n (b ∷ []) h e =
    let runs : List Plain = items_of (first_part b) in
    let k = both_second (not (is_empty runs)) ((length runs == n) && list_all is_done runs) e in
    let many : length runs ≡ n = eqb-true (length runs) n (both_first (length runs == n) (list_all is_done runs) k) in
    omega (arith, ap size_of (Each-head h), done_sizes runs (both_second (length runs == n) (list_all is_done runs) k), many)
full_size n (b ∷ c ∷ xs) h e = absurd (true≢false (sym e))

-- bags above a room in which one bag of so many runs that are done has place aren't that bag
pub times_over : (limit room n : ℕ) (xs : List Plain) → Each IsBag xs → n + 1 ≤ room → limit ≤ room → room < size_of (listed xs) → limit < size_of (pruned (settled_times n (listed xs)))
times_over limit room n [] h few le lt = absurd (omega arith)
times_over limit room n (y ∷ ys) h few le lt = by_test (only_bag_done n (items_of (listed (y ∷ ys)))) refl
  where
    by_test : (b : Bool) → only_bag_done n (items_of (listed (y ∷ ys))) ≡ b → limit < size_of (pruned (done_if b (times (listed (y ∷ ys)))))
    by_test false e = pruned_over limit (times (listed (y ∷ ys))) refl refl (omega arith)
    by_test true e =
        let k = full_size n (y ∷ ys) h (ap (only_bag_done n) (sym (items_of-listed (y ∷ ys))) ∙ e) in
        absurd (omega (arith, k))

-- entries of trees that are all ended have two nodes each
ended_entries : (tree : List ℕ → Plain) (xs : List Plain) → Each (IsOf tree) xs → list_all (λ x. is_ended (first_part x)) xs ≡ true → size_of (listed xs) ≤ 2 * length xs
ended_entries tree [] h e = omega arith
ended_entries tree (x ∷ xs) h e =
    let one = both_first (is_ended (first_part x)) (list_all (λ z. is_ended (first_part z)) xs) e in
    let rest = ended_entries tree xs (Each-tail h) (both_second (is_ended (first_part x)) (list_all (λ z. is_ended (first_part z)) xs) e) in
    let size : size_of x ≡ 1 + size_of (tree (key x)) = ap size_of (Each-head h) in
    let same : size_of (first_part x) ≡ size_of (tree (key x)) = ap (λ t. size_of (first_part t)) (Each-head h) in
    omega (arith, rest, size, same, ended_size (first_part x) one)

-- a common tree and entries above a room in which so many ended ones have place aren't all ended
pub any_over : (limit room : ℕ) (common : Plain) (tree : List ℕ → Plain) (xs : List Plain) → Each (IsOf tree) xs → 1 ≤ room → limit ≤ room → 2 * length xs + 1 ≤ room → room < size_of common + size_of (listed xs) → limit < size_of (pruned (any common (listed xs)))
any_over limit room common tree xs entries positive le few lt =
    pruned_over limit (any common (listed xs)) (not_died xs lt) (by_test (is_spent (any common (listed xs))) refl) (omega arith)
  where
    not_died : (ys : List Plain) → room < size_of common + size_of (listed ys) → (is_dead common && is_none (listed ys)) ≡ false
    not_died [] above = let h : room < size_of common = omega arith in ap (λ b. b && true) (above_lives room common positive h)
    not_died (y ∷ ys) above = and_none (is_dead common)

    by_test : (b : Bool) → is_spent (any common (listed xs)) ≡ b → b ≡ false
    by_test false e = refl
    by_test true e =
        let c = both_first (is_ended common) (list_all (λ x. is_ended (first_part x)) (items_of (listed xs))) e in
        let all = both_second (is_ended common) (list_all (λ x. is_ended (first_part x)) (items_of (listed xs))) e in
        let k = ended_entries tree xs entries (ap (list_all (λ x. is_ended (first_part x))) (sym (items_of-listed xs)) ∙ all) in
        absurd (omega (arith, k, ended_size common c))

-- Quantifiers

keys_long : (es : List (List ℕ × Plain)) → length (keys_of es) ≡ length es
keys_long [] = refl
keys_long (e ∷ es) = omega (arith, keys_long es)

module _ (p : List ℕ) (y : Form) (e : Environment) (a : PlainAction) (common : Plain) (es : List (List ℕ × Plain)) (ready : ReadyInside p y e common (map plain_entry es)) where
  -- the entries after the action, put one by one
  abbrev put_after : Reach → List Plain
  put_after reach = entries_put (common_after reach p y e a common) (tree_after reach p y e a common (map plain_entry es)) (touched es a)

  are_put : (reach : Reach) → entries_after reach p y e a common (plain_entries es) ≡ listed (put_after reach)
  are_put reach = entries_touched reach p y e a common es ready

  pub any_above : (limit room : ℕ) → 1 ≤ limit → limit ≤ room → 2 * (length es + length a.values) + 1 ≤ room → room < size_of (more (common_after All p y e a common) (entries_after All p y e a common (plain_entries es))) →
      limit < size_of (pruned (moved_node (any_form p y) e (any common (plain_entries es)) a))
  any_above limit room positive le few over =
      let next : Plain = common_after All p y e a common in
      let tree : List ℕ → Plain = tree_after All p y e a common (map plain_entry es) in
      subst (λ l. limit < size_of (pruned (any next l))) (sym (are_put All))
      (any_over limit room next tree (put_after All) (put_are next tree (touched es a)) (omega (arith, positive, le)) le
      (omega (arith, few, entries_few next tree (touched es a), length-append (keys_of es) a.values, keys_long es))
      (omega (arith, over, ap size_of (are_put All))))

  pub every_above : (limit : ℕ) → 1 ≤ limit → limit < size_of (more (common_after Must p y e a common) (entries_after Must p y e a common (plain_entries es))) →
      limit < size_of (settled (moved_node (every_form p y) e (every common (plain_entries es)) a))
  every_above limit positive over =
      let next : Plain = common_after Must p y e a common in
      subst (λ l. limit < size_of (settled (every next l))) (sym (are_put Must))
      (every_over limit positive next (put_after Must) (omega (arith, over, ap size_of (are_put Must))))

  pub sync_above : (limit : ℕ) → 1 ≤ limit → limit < size_of (more (common_after OwnAlphabet p y e a common) (entries_after OwnAlphabet p y e a common (plain_entries es))) →
      limit < size_of (settled (moved_node (sync_form p y) e (sync common (plain_entries es)) a))
  sync_above limit positive over =
      let next : Plain = common_after OwnAlphabet p y e a common in
      subst (λ l. limit < size_of (settled (sync next l))) (sym (are_put OwnAlphabet))
      (sync_over limit positive next (put_after OwnAlphabet) (omega (arith, over, ap size_of (are_put OwnAlphabet))))
