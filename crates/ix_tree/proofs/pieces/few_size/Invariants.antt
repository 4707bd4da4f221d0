use Rattle.std.proofs.Common.{◌≡◌, ◌+◌, ◌*◌, ◌≤◌, drop}
use Rattle.ix_tree.specs.PlainOf.{plain_entries}
use Rattle.ix_tree.specs.Size.{size_of}
use Rattle.ix_tree.proofs.pieces.few_size.Given as goal

abbrev pub invariant-loop-entry : goal.invariant-loop-entry
invariant-loop-entry l = (l.sum + size_of (plain_entries (drop l.entry-index l.entries)) ≡ size_of (plain_entries l.entries)) × (l.sum ≤ 10000000000 * l.entry-index)
