use Rattle.std.proofs.Common.{refl, arith}
use Rattle.ix_tree.specs.PlainOf.{plain_bag}
use Rattle.ix_tree.specs.Order.{tree_cmp}
use Rattle.ix_tree.specs.declared.node.Bag.{Bag}
use Rattle.ix_tree.proofs.Alternatives.{weight_of-list}
use Rattle.ix_step.proofs.Gathered.{gathers_put}
use Rattle.ix_step.proofs.bags.put_bag.Goals as goal

pub returns-clause-gathers : goal.returns-clause-gathers
returns-clause-gathers c =
    let b : Bag = record { items = c.args.items } in
    gathers_put plain_bag (λ b d. tree_cmp (plain_bag b) (plain_bag d)) (λ b d. refl) c.args.set.now c.put.new.set.items b c.put.result c.put.ensures.put

pub returns-clause-within : goal.returns-clause-within
returns-clause-within c = omega (arith, weight_of-list plain_bag c.put.new.set.items, c.put.ensures.within, c.put.ensures.budget)
