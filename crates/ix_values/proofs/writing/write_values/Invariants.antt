use Rattle.std.proofs.Common.{◌≡◌, ◌+◌, ◌*◌, ◌≤◌, length, take}
use Rattle.ix_values.specs.inside.FirstWord.{opened}
use Rattle.ix_values.proofs.writing.write_values.Given as goal

abbrev pub invariant-loop-value : goal.invariant-loop-value
invariant-loop-value l = record {
  written : l.out.items ≡ opened l.fn.out.items (take l.value-index l.front);
  short : length l.out.items ≤ 33 + 33 * l.value-index;
}
