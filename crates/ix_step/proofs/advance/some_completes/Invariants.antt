use Rattle.std.proofs.Common.{◌≡◌, drop}
use Rattle.std.specs.List.{list_any}
use Rattle.ix_expr.specs.inside.FormOf.{form_of}
use Rattle.ix_can.specs.TreeOf.{is_final}
use Rattle.ix_step.proofs.advance.some_completes.Given as goal

-- what the trees still to come answer is what all answer
abbrev pub invariant-loop-tree : goal.invariant-loop-tree
invariant-loop-tree l = list_any (is_final (form_of l.y)) (drop l.tree-index l.trees) ≡ list_any (is_final (form_of l.y)) l.trees
