-- The words of the parameters so far.
use Rattle.std.proofs.Common.{◌≡◌, ◌++◌, take}
use Rattle.std.specs.List.{flat_map}
use Rattle.ix_desk.specs.WhyLines.{bound_words}
use Rattle.ix_desk.proofs.why.write_bounds.Given as goal

abbrev pub invariant-loop-parameter : goal.invariant-loop-parameter
invariant-loop-parameter l = l.out.items
    ≡ l.initial.out.items ++ flat_map bound_words (take l.parameter-index l.bounds)
