use Rattle.std.proofs.Common.{[], refl}
use Rattle.ix_follow.proofs.Feeding.{holds}
use Rattle.ix_follow.proofs.laws.followers_hold_a_prefix.Goals as goal

pub returns : goal.returns
returns c = λ x limit most whole history lines answers room managed tell fed.
    holds x limit most whole room managed [] history lines answers (whole, refl) tell fed
