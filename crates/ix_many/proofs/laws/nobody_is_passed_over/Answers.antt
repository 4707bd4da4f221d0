use Rattle.ix_many.proofs.Waiting.{whoever_wants}
use Rattle.ix_many.proofs.laws.nobody_is_passed_over.Goals as goal

pub returns : goal.returns
returns c = λ mine from others waits. whoever_wants mine from others waits
