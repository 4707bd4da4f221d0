-- The rest decides.
use Rattle.std.proofs.Common.{◌≡◌, drop}
use Rattle.ix_stuck.specs.inside.Matching.{all_agree}
use Rattle.ix_stuck.proofs.matching.all_agree.Given as goal

abbrev pub invariant-loop-index : goal.invariant-loop-index
invariant-loop-index l =
    all_agree l.name l.value (drop l.index l.args) (drop l.index l.values) ≡ all_agree l.name l.value l.args l.values
