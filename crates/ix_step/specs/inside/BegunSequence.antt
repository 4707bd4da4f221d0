-- The tree of one action of a sequence.
use Rattle.std.specs.Prelude.{[], ◌∷◌, ◌++◌}
use Rattle.ix_words.specs.Canon.{when}
use Rattle.ix_values.specs.PlainAction.{PlainAction}
use Rattle.ix_expr.specs.Form.{Form}
use Rattle.ix_expr.specs.Environment.{Environment}
use Rattle.ix_tree.specs.Plain.{Plain, seq as seq_of}
use Rattle.ix_can.specs.Nodes.{is_done, set_of, unless_done}
use Rattle.ix_expr.specs.Tests.{accepts_empty}
use Rattle.ix_can.specs.TreeOf.{is_final}
use Rattle.ix_step.specs.inside.Initial.{initial_tree}
use Rattle.ix_step.specs.inside.Moves.{if_open, begun, begun_again}
use Rattle.ix_step.specs.inside.Pruned.{pruned}

-- the tree of the one action from those of both parts: the second begins with it where the first
-- may be empty
abbrev pub begun_seq : Form → Form → Environment → PlainAction → Plain
begun_seq y z e a =
    pruned (seq_of (unless_done (begun y e a)) (is_done (begun_again (accepts_empty y) z e a))
    (set_of (if_open (begun_again (accepts_empty y) z e a)
    ++ when (is_final y (begun y e a)) (initial_tree z ∷ []))))
