-- The lines of the parts so far.
use Rattle.std.proofs.Common.{◌≡◌, ◌++◌, take}
use Rattle.std.specs.List.{flat_map}
use Rattle.ix_desk.specs.WhyLines.{part_line}
use Rattle.ix_desk.proofs.why.write_parts.Given as goal

abbrev pub invariant-loop-part : goal.invariant-loop-part
invariant-loop-part l = l.out.items
    ≡ l.initial.out.items ++ flat_map (part_line l.places l.expression) (take l.part-index l.parts)
