use Rattle.std.proofs.Common.{rules}
use Rattle.ix_expr.proofs.Testing.{tells_match}
use Rattle.ix_expr.proofs.matching.matches.Goals as goal

pub returns-then-eq-clause-test : goal.returns-then-eq-clause-test
returns-then-eq-clause-test c = tells_match c.args.atom.now c.args.env.now c.args.action.now c.have_values.result (search rules)
