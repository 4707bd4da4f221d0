use Rattle.ix_why.proofs.Alone.{parts-alone}
use Rattle.ix_why.proofs.laws.parts_refuse_by_themselves.Goals as goal

pub returns : goal.returns
returns c = parts-alone
