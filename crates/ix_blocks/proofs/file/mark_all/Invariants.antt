use Rattle.std.proofs.Common.{◌≡◌, ◌≤◌, ◌<◌, ◌+◌, true, length, max, ℕ}
use Rattle.ix_blocks.specs.FileBlocks.{is_among}
use Rattle.ix_blocks.specs.inside.Marks.{MarksOnly}
use Rattle.ix_blocks.proofs.file.mark_all.Given as goal

abbrev pub invariant-loop-number : goal.invariant-loop-number
invariant-loop-number l = record {
  grows : length l.changed.items + l.from ≤ length l.fn.changed.items + l.number;
  few : length l.changed.items ≤ 120;
  has : (number : ℕ) → l.from ≤ number → number < l.number → is_among l.changed.items number ≡ true;
  marks : MarksOnly l.fn.changed.items l.changed.items l.from l.number;
  ahead : l.number ≤ max l.from l.to;
}
