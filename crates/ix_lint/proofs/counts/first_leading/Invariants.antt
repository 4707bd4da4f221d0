-- None is found so far.
use Rattle.std.proofs.Common.{◌≡◌, None, take}
use Rattle.std.specs.List.{find}
use Rattle.ix_lint.specs.Counts.{is_leading}
use Rattle.ix_lint.proofs.counts.first_leading.Given as goal

abbrev pub invariant-loop-place : goal.invariant-loop-place
invariant-loop-place l = find (is_leading l.places l.name l.most) (take l.place-index l.places) ≡ None
