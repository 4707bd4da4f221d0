use Rattle.std.proofs.Common.{arith, ap, inl, length}
use Rattle.ix_tree.proofs.Parted.{size_counts}
use Rattle.ix_tree.proofs.entries.Entries.len.Goals as goal

pub count-requires-clause-fits : goal.count-requires-clause-fits
count-requires-clause-fits c = inl (omega (arith, size_counts c.args.self.now, c.requires, ap length c.iter.ensures))

pub returns-clause-most : goal.returns-clause-most
returns-clause-most c = omega (arith, size_counts c.args.self.now, c.count.ensures.bound, ap length c.iter.ensures)
