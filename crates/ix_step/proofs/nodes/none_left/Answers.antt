use Rattle.std.proofs.Common.{not, ◌&&◌, sym, ap, ◌∙◌}
use Rattle.ix_tree.specs.Plain.{listed}
use Rattle.ix_step.specs.inside.Pruned.{is_none}
use Rattle.ix_step.proofs.Pruning.{trees_none}
use Rattle.ix_step.proofs.nodes.none_left.Goals as goal

pub returns-then-not-ended : goal.returns-then-not-ended
returns-then-not-ended c =
    c.is_empty.ensures ∙ trees_none c.args.trees.now ∙ sym (ap (λ b. not b && is_none (listed c.args.trees.now)) c.if-not-ended.true)
