use Rattle.std.proofs.Common.{map, ap, arith}
use Rattle.ix_tree.specs.PlainOf.{plain_bag}
use Rattle.ix_tree.proofs.Alternatives.{weight_of-list}
use Rattle.ix_step.proofs.Gathered.{size_all}
use Rattle.ix_step.proofs.parallel.full_or_within.Goals as goal

pub sized_if_live-requires-clause-size : goal.sized_if_live-requires-clause-size
sized_if_live-requires-clause-size c =
    omega (arith, c.total-size.ensures.total, weight_of-list plain_bag c.args.set.items, ap (λ v. size_all (map plain_bag v)) c.into_items-bags.ensures.items)

pub sized_if_live-requires-clause-most : goal.sized_if_live-requires-clause-most
sized_if_live-requires-clause-most c =
    omega (arith, c.requires, c.total-size.ensures.total, weight_of-list plain_bag c.args.set.items)
