-- Behind the last number of the range there is none of it.
use Rattle.std.proofs.Common.{inl, inr, arith}
use Rattle.ix_blocks.proofs.file.mark_all.Goals as goal

pub returns-clause-marks : goal.returns-clause-marks
returns-clause-marks c =
    let marks = c.loop-number.invariant.marks in
    record {
      keeps = marks.keeps;
      only = λ other is. elim (marks.only other is) [
        | inl k ↦ inl k
        | inr k ↦ inr (k.0, omega (arith, k.0, k.1, c.loop-number.invariant.ahead))
      ];
    }
