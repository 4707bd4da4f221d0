-- An empty list of alternatives in memory and in the plain tree.
use Rattle.std.proofs.Common.{◌&&◌, ◌==◌, length, sym, ap, ◌∙◌}
use Rattle.ix_tree.specs.Plain.{listed, items_of}
use Rattle.ix_tree.specs.inside.PlainNode.{plain_node}
use Rattle.ix_can.specs.Nodes.{is_spent}
use Rattle.ix_can.specs.Ways.{is_empty}
use Rattle.ix_step.proofs.Pruning.{trees_empty}
use Rattle.ix_step.proofs.nodes.is_spent.Goals as goal

pub returns-then-is_dead : goal.returns-then-is_dead
returns-then-is_dead c =
    c.is_empty.ensures ∙ ap (λ l. length l == 0) c.as_slice.ensures.value ∙ trees_empty c.in-Seq.rest.items
    ∙ ap (λ b. b && is_empty (items_of (listed c.in-Seq.rest.items))) (sym c.if-is_dead.true ∙ c.is_dead.ensures)
    ∙ sym (ap (λ n. is_spent (plain_node n)) c.in-Seq.is)
