-- The rest decides.
use Rattle.std.proofs.Common.{◌≡◌, drop}
use Rattle.ix_stuck.specs.inside.Matching.{can_have}
use Rattle.ix_stuck.proofs.matching.can_have.Given as goal

abbrev pub invariant-loop-index : goal.invariant-loop-index
invariant-loop-index l = can_have (drop l.index l.args) (drop l.index l.values) ≡ can_have l.args l.values
