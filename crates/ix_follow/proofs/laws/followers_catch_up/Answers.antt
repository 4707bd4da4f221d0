use Rattle.std.proofs.Common.{[], refl, arith}
use Rattle.ix_follow.proofs.Feeding.{catches}
use Rattle.ix_follow.proofs.laws.followers_catch_up.Goals as goal

pub returns : goal.returns
returns c = λ x limit most whole history lines answers number room managed tell fed enough order.
    catches x limit most whole room managed [] history lines answers number 1 (whole, refl) tell enough (omega arith) fed order
