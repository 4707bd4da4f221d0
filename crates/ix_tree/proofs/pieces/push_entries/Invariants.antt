use Rattle.std.proofs.Common.{◌≡◌, ◌≤◌, ◌++◌, length}
use Rattle.std.specs.List.{AllByRecursion}
use Rattle.ix_tree.specs.inside.Pieces.{HasEntries, in_pieces}
use Rattle.ix_tree.proofs.pieces.push_entries.Given as goal

abbrev pub invariant-loop-entry : goal.invariant-loop-entry
invariant-loop-entry l = (in_pieces l.pieces.items ++ l.piece.items ≡ in_pieces l.initial.pieces.items ++ l.yielded) × (length l.piece.items ≤ 16) × AllByRecursion HasEntries l.pieces.items
