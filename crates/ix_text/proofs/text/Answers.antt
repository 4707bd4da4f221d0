use Rattle.std.proofs.Common.{◌≡◌, length, ap, arith, rules}
use Rattle.ix_expr.specs.CanonicalText.{canonical_text}
use Rattle.ix_text.proofs.Bounds.{well-formed-length}
use Rattle.ix_text.proofs.text.Goals as goal

pub returns-clause-short : goal.returns-clause-short
returns-clause-short c =
    let items : c.write.new.out.items ≡ canonical_text c.args.expression.now = search rules in
    omega (arith, ap length items, well-formed-length c.args.expression.now c.expr.ensures.spelled c.expr.ensures.well_formed, c.write.new.out.ok.0)
