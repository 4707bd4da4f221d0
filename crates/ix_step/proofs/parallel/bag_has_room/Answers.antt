use Rattle.std.proofs.Common.{Some, sym, ap, ◌∙◌}
use Rattle.ix_tree.proofs.PlainLists.{items_of-listed}
use Rattle.ix_step.specs.inside.ParallelMoves.{has_room}
use Rattle.ix_step.proofs.parallel.bag_has_room.Goals as goal

pub returns : goal.returns
returns c =
    c.has_room.ensures ∙ ap (has_room (Some c.args.number)) (c.deref.ensures.value ∙ sym (items_of-listed c.args.bag.now.items.items))
