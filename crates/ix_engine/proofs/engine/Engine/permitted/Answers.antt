use Rattle.std.proofs.Common.{rules}
use Rattle.ix_engine.proofs.Permitting.{judged}
use Rattle.ix_engine.proofs.engine.Engine.permitted.Goals as goal

pub returns : goal.returns
returns c = search (rules, judged)
