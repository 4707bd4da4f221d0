-- The node of the tree after an action that may come, made of what its parts become.
use Rattle.std.specs.Prelude.{false, flat_map, Some, None}
use Rattle.ix_values.specs.PlainAction.{PlainAction}
use Rattle.ix_expr.specs.Form.{Form, atom, opt, seq, star, par, par_star, or, and, couple, any}
use Rattle.ix_expr.specs.Form.{every, sync, all, times}
use Rattle.ix_expr.specs.Environment.{Environment}
use Rattle.ix_tree.specs.Plain.{Plain, dead, start, done, opt as opt_of, seq as seq_of}
use Rattle.ix_tree.specs.Plain.{star as star_of, par as par_of, par_star as par_star_of}
use Rattle.ix_tree.specs.Plain.{or as or_of, and as and_of, couple as couple_of, any as any_of}
use Rattle.ix_tree.specs.Plain.{every as every_of, sync as sync_of, all as all_of}
use Rattle.ix_tree.specs.Plain.{times as times_of}
use Rattle.ix_can.specs.Nodes.{items_of, set_of, unless_done, settled_times}
use Rattle.ix_expr.specs.Tests.{in_alphabet}
use Rattle.ix_can.specs.inside.Moved.{moved, moved_inside}
use Rattle.ix_step.specs.declared.bodies.Reach.TheVariants.{All, Must, OwnAlphabet}
use Rattle.ix_step.specs.inside.Initial.{initial_tree}
use Rattle.ix_step.specs.inside.MapsAfter.{maps_after}
use Rattle.ix_step.specs.inside.Moves.{some_ends, second_parts, last_runs, runs_end}
use Rattle.ix_step.specs.inside.ParallelMoves.{pair_moves, bag_moves}
use Rattle.ix_step.specs.inside.ValueTrees.{common_after, entries_after}

-- the node after the action; of `times` it is done where it is spent, which its number tells
abbrev pub moved_node : Form → Environment → Plain → PlainAction → Plain
moved_node (atom x) e start a = done
moved_node (opt y) e (opt_of empty t) a = opt_of false (moved y e t a)
moved_node (seq y z) e (seq_of t ended rest) a =
    seq_of (unless_done (moved y e t a)) (some_ends z e a (items_of rest))
    (set_of (second_parts y z e a (moved y e t a) (items_of rest)))
moved_node (star y) e (star_of again rest) a =
    star_of (runs_end y e a again (items_of rest)) (set_of (last_runs y e a again (items_of rest)))
moved_node (par y z) e (par_of pairs) a =
    par_of (set_of (flat_map (pair_moves y z e a) (items_of pairs)))
moved_node (par_star y) e (par_star_of bags) a =
    par_star_of (set_of (flat_map (bag_moves None y e a) (items_of bags)))
moved_node (or y z) e (or_of t u) a = or_of (moved y e t a) (moved z e u a)
moved_node (and y z) e (and_of t u) a = and_of (moved y e t a) (moved z e u a)
moved_node (couple y z) e (couple_of t u) a =
    couple_of (moved_inside (in_alphabet y e a) (moved y e t a) t)
    (moved_inside (in_alphabet z e a) (moved z e u a) u)
moved_node (any p y) e (any_of common entries) a =
    any_of (common_after All p y e a common) (entries_after All p y e a common entries)
moved_node (every p y) e (every_of common entries) a =
    every_of (common_after Must p y e a common) (entries_after Must p y e a common entries)
moved_node (sync p y) e (sync_of common entries) a =
    sync_of (common_after OwnAlphabet p y e a common)
    (entries_after OwnAlphabet p y e a common entries)
moved_node (all p y) e (all_of maps) a =
    all_of (set_of (flat_map (maps_after p y e a (initial_tree y) a.values) (items_of maps)))
moved_node (times n y) e (times_of bags) a =
    settled_times n (set_of (flat_map (bag_moves (Some n) y e a) (items_of bags)))
moved_node x e t a = dead
