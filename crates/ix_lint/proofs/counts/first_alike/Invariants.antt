-- None is found so far.
use Rattle.std.proofs.Common.{◌≡◌, None, take}
use Rattle.std.specs.List.{find}
use Rattle.ix_lint.specs.Counts.{is_like}
use Rattle.ix_lint.proofs.counts.first_alike.Given as goal

abbrev pub invariant-loop-place : goal.invariant-loop-place
invariant-loop-place l = find (is_like l.atom) (take l.place-index l.places) ≡ None
