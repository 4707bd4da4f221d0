use Rattle.std.proofs.Common.{ap, arith}
use Rattle.std.specs.List.{remove}
use Rattle.ix_tree.specs.Plain.{listed}
use Rattle.ix_tree.specs.Size.{size_of}
use Rattle.ix_step.proofs.BagsPut.{size-more_runs, size-remove}
use Rattle.ix_step.proofs.bags.put_moved.Goals as goal

pub put_bag-requires-clause-small : goal.put_bag-requires-clause-small
put_bag-requires-clause-small c =
    omega (arith, c.requires.tree, c.requires.items, ap (λ l. size_of (listed l)) c.in_ok-all.ensures, size-more_runs c.args.wanted c.args.tree (remove c.args.items.now c.args.place), size-remove c.args.items.now c.args.place)
