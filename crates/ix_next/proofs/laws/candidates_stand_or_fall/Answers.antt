use Rattle.ix_next.proofs.Alike.{stand_or_fall}
use Rattle.ix_next.proofs.laws.candidates_stand_or_fall.Goals as goal

pub returns : goal.returns
returns c = stand_or_fall
