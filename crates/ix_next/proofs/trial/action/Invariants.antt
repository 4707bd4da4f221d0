use Rattle.std.proofs.Common.{◌≡◌, length, take, map}
use Rattle.ix_next.specs.Candidates.{value_of}
use Rattle.ix_next.specs.inside.Trials.{new_of}
use Rattle.ix_next.proofs.trial.action.Given as goal

abbrev pub invariant-loop-index : goal.invariant-loop-index
invariant-loop-index l = record {
  long : length l.values ≡ 4;
  made : take l.index l.values ≡ map (value_of (new_of l.new)) (take l.index l.terms);
}
