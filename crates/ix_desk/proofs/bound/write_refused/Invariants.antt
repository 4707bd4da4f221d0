-- The lines of the refused nodes so far.
use Rattle.std.proofs.Common.{◌≡◌, ◌++◌, take}
use Rattle.std.specs.List.{flat_map}
use Rattle.ix_desk.specs.BoundLines.{unbounded_line}
use Rattle.ix_desk.proofs.bound.write_refused.Given as goal

abbrev pub invariant-loop-node : goal.invariant-loop-node
invariant-loop-node l =
    l.out.items ≡ l.initial.out.items ++ flat_map (unbounded_line l.places) (take l.node-index l.refused)
