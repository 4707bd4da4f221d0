use Rattle.std.proofs.Common.{rules}
use Rattle.ix_engine.proofs.Trees.{tree_proper}
use Rattle.ix_engine.proofs.engine.Engine.may.Goals as goal

pub can-requires-clause-proper : goal.can-requires-clause-proper
can-requires-clause-proper c = search (rules, tree_proper)
