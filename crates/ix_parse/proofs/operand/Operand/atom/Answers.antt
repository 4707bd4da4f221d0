use Rattle.std.proofs.Common.{◌≡◌, refl, arith, ⊎_elim, false}
use Rattle.ix_expr.specs.Reserved.{is_reserved}
use Rattle.ix_parse.proofs.Classes.{named-unreserved}
use Rattle.ix_parse.proofs.operand.Operand.atom.Goals as goal

pub unreachable-requires : goal.unreachable-requires
unreachable-requires c =
    ⊎_elim
    (λ reserved. let free : is_reserved c.args.name ≡ false = named-unreserved c.args.name c.requires.named in cc (reserved, free))
    (λ many. let few = c.requires.few in omega arith)
    (c.in_default.ensures.refused.0 refl)
