use Rattle.std.proofs.Common.{rules}
use Rattle.ix_expr.proofs.PairFound.{pair_found}
use Rattle.ix_expr.proofs.seen.atom_sees.Goals as goal

pub returns-then-args-values : goal.returns-then-args-values
returns-then-args-values c =
    let placed = pair_found _ _ _ _ _ _ _ c.args-then-args-values.ensures.value c.values-then-args-values.ensures.value c.has_pair.ensures in
    (λ h. record { named = search rules; counted = search rules; placed = placed.0 h }, λ s. placed.1 s.placed)
