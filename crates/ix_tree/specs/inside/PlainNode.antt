-- The plain tree that a node stands for.
use Rattle.std.specs.Prelude.{map as each}
use Rattle.ix_tree.specs.Plain.{Plain, dead, start, done, opt, seq, star, par, par_star}
use Rattle.ix_tree.specs.Plain.{or, and, couple, any, every, sync, all, times, listed}
use Rattle.ix_tree.specs.PlainOf.{plain_entries, plain_pair, plain_bag, plain_map}
use Rattle.ix_tree.specs.declared.node.Node.{Node}
use Rattle.ix_tree.specs.declared.node.Node.TheVariants.{Dead, Start, Done, Opt, Seq, Star, Par}
use Rattle.ix_tree.specs.declared.node.Node.TheVariants.{ParStar, Or, And, Couple, Any, Every, Sync}
use Rattle.ix_tree.specs.declared.node.Node.TheVariants.{All, Times}

-- the plain tree of a node
abbrev pub plain_node : Node → Plain
plain_node Dead = dead
plain_node Start = start
plain_node Done = done
plain_node (Opt empty x) = opt empty x
plain_node (Seq x ended xs) = seq x ended (listed xs.items)
plain_node (Star again xs) = star again (listed xs.items)
plain_node (Par ps) = par (listed (each plain_pair ps.items))
plain_node (ParStar bs) = par_star (listed (each plain_bag bs.items))
plain_node (Or x y) = or x y
plain_node (And x y) = and x y
plain_node (Couple x y) = couple x y
plain_node (Any x es) = any x (plain_entries es)
plain_node (Every x es) = every x (plain_entries es)
plain_node (Sync x es) = sync x (plain_entries es)
plain_node (All ms) = all (listed (each plain_map ms.items))
plain_node (Times bs) = times (listed (each plain_bag bs.items))
