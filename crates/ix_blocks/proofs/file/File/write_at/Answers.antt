use Rattle.std.proofs.Common.{◌+◌, ◌++◌, length, take, drop, sym, ap, ◌∙◌, subst, arith}
use Rattle.ix_blocks.specs.FileBlocks.{DiffersIn}
use Rattle.ix_blocks.proofs.Cutting.{write-differs}
use Rattle.ix_blocks.proofs.file.File.write_at.Goals as goal

pub returns-clause-differs : goal.returns-clause-differs
returns-clause-differs c synced d =
    subst (DiffersIn c.mark_all.new.changed.items synced)
    (sym (c.write.ensures ∙ ap (λ xs. take c.args.at xs ++ (c.args.bytes.now ++ drop (c.args.at + length c.args.bytes.now) xs)) c.in-Ok.ensures.items))
    (write-differs c.args.self.now.changed.items c.mark_all.new.changed.items synced c.args.self.now.bytes.items c.args.bytes.now c.args.at d c.in_ok-mark_all.ensures.marks.keeps (λ n f g. c.in_ok-mark_all.ensures.has n f (omega (arith, g, c.in-Some.ensures.1, c.div_ceil.ensures))) c.requires)
