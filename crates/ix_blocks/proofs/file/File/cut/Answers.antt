use Rattle.std.proofs.Common.{sym, subst, arith}
use Rattle.ix_blocks.specs.FileBlocks.{DiffersIn}
use Rattle.ix_blocks.proofs.Cutting.{cut-differs}
use Rattle.ix_blocks.proofs.file.File.cut.Goals as goal

pub returns-clause-differs : goal.returns-clause-differs
returns-clause-differs c synced d =
    subst (DiffersIn c.mark_all.new.changed.items synced) (sym c.truncate.ensures.items)
    (cut-differs c.args.self.now.changed.items c.mark_all.new.changed.items synced c.args.self.now.bytes.items c.args.count d c.in_ok-mark_all.ensures.marks.keeps (λ n f g. c.in_ok-mark_all.ensures.has n f (omega (arith, g, c.div_ceil.ensures))) c.requires)
