use Rattle.std.proofs.Common.{◌≡◌, drop}
use Rattle.std.specs.List.{list_all}
use Rattle.ix_tree.specs.Plain.{listed, items_of}
use Rattle.ix_can.specs.Nodes.{is_done}
use Rattle.ix_step.proofs.parallel.each_done.Given as goal

abbrev pub invariant-loop-item : goal.invariant-loop-item
invariant-loop-item l = list_all is_done (items_of (listed l.items)) ≡ list_all is_done (items_of (listed (drop l.item-index l.items)))
