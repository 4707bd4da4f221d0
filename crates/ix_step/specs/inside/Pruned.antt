-- Where it is asked whether an action may come next before the parts are moved, and where the moved
-- parts tell that the node is dead or done.
use Rattle.std.specs.Prelude.{Bool, true, false, not, ◌&&◌}
use Rattle.ix_values.specs.PlainAction.{PlainAction}
use Rattle.ix_expr.specs.Form.{Form, atom, and, couple, every, sync}
use Rattle.ix_expr.specs.Environment.{Environment}
use Rattle.ix_tree.specs.Plain.{Plain, is_dead, none, opt as opt_of, seq as seq_of, star as star_of}
use Rattle.ix_tree.specs.Plain.{par as par_of, par_star as par_star_of, or as or_of, any as any_of}
use Rattle.ix_tree.specs.Plain.{all as all_of, times as times_of}
use Rattle.ix_can.specs.Nodes.{dead_if, settled}
use Rattle.ix_can.specs.May.{may}

-- whether the action may come next, as far as it is asked: of an atom, and of the forms of which
-- each part must move
abbrev pub passes : Form → Environment → Plain → PlainAction → Bool
passes (atom x) e t a = may (atom x) e t a
passes (and y z) e t a = may (and y z) e t a
passes (couple y z) e t a = may (couple y z) e t a
passes (every p y) e t a = may (every p y) e t a
passes (sync p y) e t a = may (sync p y) e t a
passes x e t a = true

-- whether it is the empty list of parts
abbrev pub is_none : Plain → Bool
is_none none = true
is_none t = false

-- whether no part of the node is live, where it is enough that one is; a flag tells of the parts
-- that are done
abbrev pub has_died : Plain → Bool
has_died (opt_of empty t) = is_dead t
has_died (seq_of t ended rest) = is_dead t && (not ended && is_none rest)
has_died (star_of again rest) = not again && is_none rest
has_died (par_of pairs) = is_none pairs
has_died (par_star_of bags) = is_none bags
has_died (or_of t u) = is_dead t && is_dead u
has_died (any_of common entries) = is_dead common && is_none entries
has_died (all_of maps) = is_none maps
has_died (times_of bags) = is_none bags
has_died t = false

-- the node, dead where none of its parts is live, and done where it is spent
abbrev pub pruned : Plain → Plain
pruned t = dead_if (has_died t) (settled t)
