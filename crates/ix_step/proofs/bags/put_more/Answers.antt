use Rattle.std.proofs.Common.{ap, arith}
use Rattle.ix_tree.specs.Plain.{listed}
use Rattle.ix_tree.specs.Size.{size_of}
use Rattle.ix_step.proofs.BagsPut.{size-more_runs}
use Rattle.ix_step.proofs.bags.put_more.Goals as goal

pub put_bag-requires-clause-small : goal.put_bag-requires-clause-small
put_bag-requires-clause-small c =
    omega (arith, c.requires.more, c.requires.items, ap size_of c.in_ok-tree.ensures, ap (λ l. size_of (listed l)) c.in_ok-all.ensures, size-more_runs c.args.wanted c.in_ok-tree.tree c.args.items.now)
