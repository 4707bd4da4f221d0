use Rattle.std.proofs.Common.{map, refl, sym, ap, ◌∙◌, arith}
use Rattle.ix_tree.specs.Plain.{pair}
use Rattle.ix_tree.specs.PlainOf.{plain_pair}
use Rattle.ix_tree.specs.Order.{tree_cmp}
use Rattle.ix_tree.specs.declared.node.Pair.{Pair}
use Rattle.ix_tree.proofs.Alternatives.{weight_of-list}
use Rattle.ix_step.proofs.Gathered.{gathers_put, live_adds}
use Rattle.ix_step.proofs.pairs.put_left.Goals as goal

pub returns-clause-gathers : goal.returns-clause-gathers
returns-clause-gathers c =
    let p : Pair = record { first = c.args.first; second = c.in_ok-second.second } in
    live_adds c.args.set.now.budget c.args.first (pair c.args.first c.args.right.now) (map plain_pair c.args.set.now.items) (plain_pair p) (map plain_pair c.put.new.set.items) c.put.result
    (sym c.is_dead.ensures ∙ c.if-is_dead.false) (ap (pair c.args.first) c.in_ok-second.ensures)
    (gathers_put plain_pair (λ p q. tree_cmp (plain_pair p) (plain_pair q)) (λ p q. refl) c.args.set.now c.put.new.set.items p c.put.result c.put.ensures.put)

pub returns-clause-within : goal.returns-clause-within
returns-clause-within c = omega (arith, weight_of-list plain_pair c.put.new.set.items, c.put.ensures.within, c.put.ensures.budget)
