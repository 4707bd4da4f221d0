use Rattle.std.proofs.Common.{◌≡◌, ◌-◌, ◌<◌, ◌≤◌, length, take}
use Rattle.ix_values.specs.inside.FirstWord.{opened}
use Rattle.ix_values.specs.Texts.{IsAction}
use Rattle.ix_values.proofs.reading.read_values.Given as goal

abbrev pub invariant-loop-value : goal.invariant-loop-value
invariant-loop-value l = record {
  within : l.at ≤ length l.text;
  before : take l.at l.text ≡ opened l.action.name l.action.values;
  valid : IsAction l.action;
  few : length l.action.values < 4;
}

abbrev pub decreases-loop-value : goal.decreases-loop-value
decreases-loop-value l = length l.text - l.at
