use Rattle.std.proofs.Common.{ap, arith}
use Rattle.ix_tree.specs.PlainOf.{plain_entries}
use Rattle.ix_tree.specs.Size.{size_of}
use Rattle.ix_tree.proofs.Parted.{size_drop}
use Rattle.ix_tree.proofs.pieces.pieces_size.Goals as goal

pub loop-piece-preserved : goal.loop-piece-preserved
loop-piece-preserved c =
    omega (arith, c.loop-piece.invariant, c.size-sum.ensures, size_drop c.args.pieces.now c.loop-piece.piece-index c.piece-item.result c.loop-piece-test.true, ap (λ l. size_of (plain_entries l)) c.piece-item.is)

pub overflow_add-sum : goal.overflow_add-sum
overflow_add-sum c =
    omega (arith, c.requires, c.loop-piece.invariant, c.size-sum.ensures, size_drop c.args.pieces.now c.loop-piece.piece-index c.piece-item.result c.loop-piece-test.true, ap (λ l. size_of (plain_entries l)) c.piece-item.is)
