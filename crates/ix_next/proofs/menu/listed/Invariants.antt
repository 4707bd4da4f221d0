use Rattle.std.proofs.Common.{◌≡◌, take}
use Rattle.ix_next.proofs.menu.listed.Given as goal

abbrev pub invariant-loop-candidate : goal.invariant-loop-candidate
invariant-loop-candidate l = l.listed.items ≡ take l.candidate-index l.candidates
