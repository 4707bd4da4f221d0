-- The lines of the atoms so far.
use Rattle.std.proofs.Common.{◌≡◌, ◌++◌, take}
use Rattle.std.specs.List.{flat_map}
use Rattle.ix_desk.specs.StuckLines.{gone_line}
use Rattle.ix_desk.proofs.stuck.write_gone.Given as goal

abbrev pub invariant-loop-node : goal.invariant-loop-node
invariant-loop-node l = l.out.items
    ≡ l.initial.out.items
    ++ flat_map (gone_line l.places l.expression) (take l.node-index l.gone)
