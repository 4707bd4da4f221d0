use Rattle.std.proofs.Common.{arith}
use Rattle.ix_expr.specs.inside.FormOf.{form_of}
use Rattle.ix_expr.proofs.Parts.{well-formed-few, some-nodes}
use Rattle.ix_expr.proofs.expression.Expression.nodes.Goals as goal

pub returns-clause-within : goal.returns-clause-within
returns-clause-within c =
    let x = form_of c.self.inside.expr in
    (omega (arith, some-nodes x, c.self.invariant.2), omega (arith, well-formed-few x c.self.invariant.1, c.self.invariant.2))
