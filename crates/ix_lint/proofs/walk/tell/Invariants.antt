-- The findings of the kinds so far.
use Rattle.std.proofs.Common.{◌≡◌, ◌++◌, take}
use Rattle.std.specs.List.{flat_map}
use Rattle.ix_lint.specs.Findings.{told}
use Rattle.ix_lint.proofs.walk.tell.Given as goal

abbrev pub invariant-loop-kind : goal.invariant-loop-kind
invariant-loop-kind l = l.found.items ≡ l.initial.found.items ++ flat_map (told l.node) (take l.kind-index l.kinds)
