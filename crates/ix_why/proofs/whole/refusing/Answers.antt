-- A well-formed expression has few nodes.
use Rattle.std.proofs.Common.{arith}
use Rattle.ix_expr.specs.inside.FormOf.{form_of}
use Rattle.ix_why.proofs.Counts.{few_nodes}
use Rattle.ix_why.proofs.whole.refusing.Goals as goal

pub walk-requires-clause-few : goal.walk-requires-clause-few
walk-requires-clause-few c = omega (arith, few_nodes (form_of c.args.expr.now) c.requires.formed)
