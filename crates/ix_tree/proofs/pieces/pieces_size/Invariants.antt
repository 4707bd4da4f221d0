use Rattle.std.proofs.Common.{◌≡◌, ◌+◌, drop}
use Rattle.ix_tree.specs.PlainOf.{plain_entries}
use Rattle.ix_tree.specs.Size.{size_of}
use Rattle.ix_tree.specs.inside.Pieces.{in_pieces}
use Rattle.ix_tree.proofs.pieces.pieces_size.Given as goal

abbrev pub invariant-loop-piece : goal.invariant-loop-piece
invariant-loop-piece l = l.sum + size_of (plain_entries (in_pieces (drop l.piece-index l.pieces))) ≡ size_of (plain_entries (in_pieces l.pieces))
