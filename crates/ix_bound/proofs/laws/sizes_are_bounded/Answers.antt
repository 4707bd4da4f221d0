use Rattle.ix_bound.specs.Refusals.{codes_of}
use Rattle.ix_bound.proofs.Bounded.{all_pass, bounded}
use Rattle.ix_bound.proofs.laws.sizes_are_bounded.Goals as goal

pub returns : goal.returns
returns c = λ x e w k fits accepted few. bounded x e w k fits (all_pass 0 (codes_of x) accepted) few
