use Rattle.std.proofs.Math.Logic.{∥∥₁_elim}
use Rattle.ix_script.proofs.LineParts.{no_fault}
use Rattle.ix_script.proofs.line.checked_line.Goals as goal

pub unreachable-requires : goal.unreachable-requires
unreachable-requires c = ∥∥₁_elim c.requires (λ x y. absurd x) (no_fault c.args.line.now c.in-Err.field-0 c.in-Err.ensures)
