-- The alternatives after an action.
use Rattle.std.specs.Prelude.{List, [], ◌∷◌, ◌++◌, flat_map, Bool, ◌||◌, if◌then◌else◌}
use Rattle.std.specs.List.{list_any}
use Rattle.ix_words.specs.Canon.{when}
use Rattle.ix_values.specs.PlainAction.{PlainAction}
use Rattle.ix_expr.specs.Form.{Form}
use Rattle.ix_expr.specs.Environment.{Environment}
use Rattle.ix_tree.specs.Plain.{Plain, dead}
use Rattle.ix_can.specs.Nodes.{is_done, is_open}
use Rattle.ix_can.specs.TreeOf.{is_final, tree_of}
use Rattle.ix_can.specs.inside.Moved.{moved}
use Rattle.ix_step.specs.inside.Initial.{initial_tree}

-- the tree, if it is open
abbrev pub if_open : Plain → List Plain
if_open x = when (is_open x) (x ∷ [])

-- the moved tree, if it is open
abbrev pub open_move : Form → Environment → PlainAction → Plain → List Plain
open_move x e a t = if_open (moved x e t a)

-- the moved trees that are open
abbrev pub open_moves : Form → Environment → PlainAction → List Plain → List Plain
open_moves x e a trees = flat_map (open_move x e a) trees

-- whether the moved tree is done
abbrev pub ends : Form → Environment → PlainAction → Plain → Bool
ends x e a t = is_done (moved x e t a)

-- whether some moved tree is done
abbrev pub some_ends : Form → Environment → PlainAction → List Plain → Bool
some_ends x e a trees = list_any (ends x e a) trees

-- the tree of the one action
abbrev pub begun : Form → Environment → PlainAction → Plain
begun x e a = moved x e (tree_of x [] []) a

-- the tree of the one action where another run may begin, else the dead tree
abbrev pub begun_again : Bool → Form → Environment → PlainAction → Plain
begun_again again x e a = if again then begun x e a else dead

-- the open alternatives of a second part: those that moved, and its beginning where the first part
-- is complete
abbrev pub second_parts : Form → Form → Environment → PlainAction → Plain → List Plain → List Plain
second_parts y z e a first rest =
    open_moves z e a rest ++ when (is_final y first) (initial_tree z ∷ [])

-- the open alternatives of the last run: those that moved, and one more that begins where it may
abbrev pub last_runs : Form → Environment → PlainAction → Bool → List Plain → List Plain
last_runs y e a again rest = open_moves y e a rest ++ if_open (begun_again again y e a)

-- whether an alternative for the last run is done or, being open, final
abbrev pub runs_end : Form → Environment → PlainAction → Bool → List Plain → Bool
runs_end y e a again rest =
    (some_ends y e a rest || is_done (begun_again again y e a))
    || list_any (is_final y) (last_runs y e a again rest)
