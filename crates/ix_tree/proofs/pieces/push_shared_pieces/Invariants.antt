use Rattle.std.proofs.Common.{◌≡◌, ◌++◌, take}
use Rattle.ix_tree.proofs.pieces.push_shared_pieces.Given as goal

abbrev pub invariant-loop-piece : goal.invariant-loop-piece
invariant-loop-piece l = l.shared.items ≡ l.initial.shared.items ++ take l.piece-index l.pieces
