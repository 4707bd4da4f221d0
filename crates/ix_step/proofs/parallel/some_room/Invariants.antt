use Rattle.std.proofs.Common.{◌≡◌, Some, drop, map}
use Rattle.std.specs.List.{list_any}
use Rattle.ix_tree.specs.Order.{first_part}
use Rattle.ix_tree.specs.Plain.{items_of}
use Rattle.ix_tree.specs.PlainOf.{plain_bag}
use Rattle.ix_step.specs.inside.ParallelMoves.{has_room}
use Rattle.ix_step.proofs.parallel.some_room.Given as goal

abbrev pub invariant-loop-bag : goal.invariant-loop-bag
invariant-loop-bag l =
    list_any (λ b. has_room (Some l.number) (items_of (first_part b))) (map plain_bag l.bags)
    ≡ list_any (λ b. has_room (Some l.number) (items_of (first_part b))) (map plain_bag (drop l.bag-index l.bags))
