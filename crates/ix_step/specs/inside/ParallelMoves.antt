-- The alternatives of `+`, of `#` and of `times` after an action, and what is asked before their
-- parts are moved.
use Rattle.std.specs.Prelude.{◌≡◌, ℕ, ◌+◌, ◌≤◌, Bool, true, List, [], ◌∷◌, ◌++◌, ◌==◌, ◌&&◌, not}
use Rattle.std.specs.Prelude.{flat_map, get_or, length, nat_lt, Option, Some, None}
use Rattle.ix_words.specs.Each.{Each}
use Rattle.ix_words.specs.Canon.{when}
use Rattle.ix_values.specs.PlainAction.{PlainAction}
use Rattle.ix_expr.specs.Form.{Form}
use Rattle.ix_expr.specs.Environment.{Environment}
use Rattle.ix_tree.specs.Plain.{Plain, pair, bag, listed, items_of}
use Rattle.ix_tree.specs.Order.{first_part, second_part}
use Rattle.ix_tree.specs.Size.{size_of}
use Rattle.ix_can.specs.Laws.{IsRising}
use Rattle.std.specs.List.{list_all}
use Rattle.ix_can.specs.Ways.{is_empty}
use Rattle.ix_can.specs.Nodes.{is_done, is_live, put_in}
use Rattle.ix_can.specs.inside.Moved.{moved, picks, put_unless_done}
use Rattle.ix_step.specs.inside.Limits.{most_size}
use Rattle.ix_step.specs.inside.Moves.{begun}
use Rattle.ix_step.specs.inside.Ready.{Ready}

-- the pairs of two trees with one of them moved, each where the moved tree is live
abbrev pub pairs_moved : Plain → Plain → Plain → Plain → List Plain
pairs_moved x u left right =
    when (is_live left) (pair left u ∷ []) ++ when (is_live right) (pair x right ∷ [])

-- the pairs in which one of the two sides is moved
abbrev pub pair_moves : Form → Form → Environment → PlainAction → Plain → List Plain
pair_moves y z e a p =
    pairs_moved (first_part p) (second_part p) (moved y e (first_part p) a)
    (moved z e (second_part p) a)

-- the runs and one more: where so many are wanted, one that is done stays among them; where any
-- number is, it is left out
abbrev pub more_runs : Option ℕ → Plain → List Plain → List Plain
more_runs None x runs = put_unless_done x runs
more_runs (Some n) x runs = put_in x runs

-- the bag of the runs and one more, if that one is live
abbrev pub runs_with : Option ℕ → Plain → List Plain → List Plain
runs_with wanted x runs = when (is_live x) (bag (listed (more_runs wanted x runs)) ∷ [])

-- whether one more run may begin
abbrev pub has_room : Option ℕ → List Plain → Bool
has_room None runs = true
has_room (Some n) runs = nat_lt (length runs) n

-- whether there are so many runs, and some, and all are done
abbrev pub full_runs : ℕ → List Plain → Bool
full_runs n runs = not (is_empty runs) && ((length runs == n) && list_all is_done runs)

-- the bag of a moved tree and the others
abbrev pub pick_move : Option ℕ → Form → Environment → PlainAction → Plain × List Plain → List Plain
pick_move wanted y e a p = runs_with wanted (moved y e p.0 a) p.1

-- the bags in which one of the trees is moved
abbrev pub pick_moves : Option ℕ → Form → Environment → PlainAction → List Plain → List Plain
pick_moves wanted y e a trees = flat_map (pick_move wanted y e a) (picks trees)

-- the bag in which one more run begins, if it may
abbrev pub begun_runs : Option ℕ → Plain → List Plain → List Plain
begun_runs wanted first runs = when (has_room wanted runs) (runs_with wanted first runs)

-- the bags in which one of the trees is moved or one more begins
abbrev pub bag_moves : Option ℕ → Form → Environment → PlainAction → Plain → List Plain
bag_moves wanted y e a b =
    pick_moves wanted y e a (items_of (first_part b))
    ++ begun_runs wanted (begun y e a) (items_of (first_part b))

-- it is the tree of a run that begins, if some bag has room for one
abbrev pub IsFirstRun : Option ℕ → Form → Environment → PlainAction → List Plain → Plain → Type 0
IsFirstRun wanted y e a bags first =
    Each (λ b. has_room wanted (items_of (first_part b)) ≡ true → first ≡ begun y e a) bags

-- both sides of the pair are ready
abbrev pub IsReadyPair : Form → Form → Environment → Plain → Type 0
IsReadyPair y z e p = Ready y e (first_part p) × Ready z e (second_part p)

-- each tree of the bag is ready, and the bag isn't too large and rises
abbrev pub IsReadyBag : Form → Environment → Plain → Type 0
IsReadyBag y e b = Each (Ready y e) (items_of (first_part b)) × (size_of b ≤ most_size)
    × IsRising (items_of (first_part b))

-- the tree at the place equals the one before it
abbrev pub IsRepeat : List Plain → ℕ → Type 0
IsRepeat trees place =
    (before : ℕ) × (place ≡ before + 1)
    × ((x : Plain) → get_or trees before x ≡ get_or trees place x)
