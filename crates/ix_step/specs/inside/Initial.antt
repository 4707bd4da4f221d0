-- The tree of the empty word, form by form.
use Rattle.std.specs.Prelude.{true, false, [], ◌∷◌}
use Rattle.ix_words.specs.Canon.{when}
use Rattle.ix_expr.specs.Form.{Form, atom, opt, seq, star, par, par_star, or, and, couple, any}
use Rattle.ix_expr.specs.Form.{every, sync, all, times}
use Rattle.ix_tree.specs.Plain.{Plain, start, opt as opt_of, seq as seq_of, star as star_of}
use Rattle.ix_tree.specs.Plain.{par as par_of, par_star as par_star_of, or as or_of, and as and_of}
use Rattle.ix_tree.specs.Plain.{couple as couple_of, any as any_of, every as every_of}
use Rattle.ix_tree.specs.Plain.{sync as sync_of, all as all_of, times as times_of, pair as pair_of}
use Rattle.ix_tree.specs.Plain.{bag as bag_of, map as map_of, none, listed}
use Rattle.ix_expr.specs.Tests.{accepts_empty}

-- the tree of the empty word under any environment
abbrev pub initial_tree : Form → Plain
initial_tree (atom x) = start
initial_tree (opt y) = opt_of true (initial_tree y)
initial_tree (seq y z) =
    seq_of (initial_tree y) false (listed (when (accepts_empty y) (initial_tree z ∷ [])))
initial_tree (star y) = star_of true none
initial_tree (par y z) = par_of (listed (pair_of (initial_tree y) (initial_tree z) ∷ []))
initial_tree (par_star y) = par_star_of (listed (bag_of none ∷ []))
initial_tree (or y z) = or_of (initial_tree y) (initial_tree z)
initial_tree (and y z) = and_of (initial_tree y) (initial_tree z)
initial_tree (couple y z) = couple_of (initial_tree y) (initial_tree z)
initial_tree (any p y) = any_of (initial_tree y) none
initial_tree (every p y) = every_of (initial_tree y) none
initial_tree (sync p y) = sync_of (initial_tree y) none
initial_tree (all p y) = all_of (listed (map_of none ∷ []))
initial_tree (times n y) = times_of (listed (bag_of none ∷ []))
