-- The most so far.
use Rattle.std.proofs.Common.{◌≡◌, take, fold, max}
use Rattle.ix_lint.specs.Counts.{named_frequency}
use Rattle.ix_lint.proofs.counts.greatest_frequency.Given as goal

abbrev pub invariant-loop-place : goal.invariant-loop-place
invariant-loop-place l =
    l.most ≡ fold (λ most s. max (named_frequency l.places l.name s) most) 0 (take l.place-index l.places)
