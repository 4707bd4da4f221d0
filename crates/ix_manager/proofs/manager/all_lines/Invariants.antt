use Rattle.std.proofs.Common.{◌≡◌, [], replicate}
use Rattle.ix_lines.specs.Feeding.{unfinished}
use Rattle.ix_manager.proofs.manager.all_lines.Given as goal

abbrev pub invariant-loop-made : goal.invariant-loop-made
invariant-loop-made l = l.lines.items ≡ replicate l._made (unfinished [])
