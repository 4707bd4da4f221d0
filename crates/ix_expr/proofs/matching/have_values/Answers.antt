use Rattle.std.proofs.Common.{◌≡◌, true, arith, rules}
use Rattle.ix_expr.proofs.Places.{have-as-many, have-here, have-more}
use Rattle.ix_expr.proofs.matching.have_values.Goals as goal

pub returns-then-args-values : goal.returns-then-args-values
returns-then-args-values c = (λ h. cc, λ h. absurd (c.if-args-values.true (have-as-many _ _ _ h)))

pub returns-then-not-has_value : goal.returns-then-not-has_value
returns-then-not-has_value c = (
  λ h. cc,
  λ h. let has : c.has_value.result ≡ true = c.has_value.ensures.1 (have-here _ _ _ c.loop-index.index _ _ h (omega arith) c.index-args-index.is c.index-values-index.is) in cc,
)

pub loop-index-preserved : goal.loop-index-preserved
loop-index-preserved c =
    have-more _ _ _ c.loop-index.index _ _ c.loop-index.invariant (c.has_value.ensures.0 (search rules)) (omega arith) (omega arith) c.index-args-index.is c.index-values-index.is
