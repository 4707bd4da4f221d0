use Rattle.std.proofs.Common.{◌≡◌, [], take, map}
use Rattle.ix_next.specs.Candidates.{action_with}
use Rattle.ix_next.specs.inside.Trials.{new_of}
use Rattle.ix_next.proofs.menu.actions.Given as goal

abbrev pub invariant-loop-candidate : goal.invariant-loop-candidate
invariant-loop-candidate l = l.actions.items ≡ map (action_with (new_of [])) (take l.candidate-index l.candidates)
