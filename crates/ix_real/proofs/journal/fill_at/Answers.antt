-- A read goes on where the one before ended.
use Rattle.std.proofs.Common.{rules, sym, subst, le_refl, length-take-le}
use Rattle.std.proofs.lemmas.Slice.{take-put_mid_below}
use Rattle.std.specs.Io.KnownBytes.{Consumes}
use Rattle.ix_real.proofs.Reading.{read_behind}
use Rattle.ix_real.proofs.journal.fill_at.Goals.{in-Ok, in-Err}
use Rattle.ix_real.proofs.journal.fill_at.Goals as goal

pub loop-preserved : goal.loop-preserved
loop-preserved g c = elim c.match-read_some.branch [
  | in-Ok w ↦ rw w.filled-is (
    search rules,
    read_behind (g.F.ReadAt.bytes c.args.file.now) c.args.at c.loop.filled w.in-Ok.count c.in-Some.place _ _ _
        (length-take-le c.loop.filled c.loop.buf c.loop.invariant.0) w.in-Ok.ensures.bound.0 c.in-Some.ensures.1 c.loop.invariant.1 w.in-Ok.ensures.bytes,
  )
  | in-Err w ↦ rw w.filled-is (search rules, subst (Consumes _ _) (sym (take-put_mid_below _ _ _ _ _ (le_refl _) c.loop.invariant.0)) c.loop.invariant.1)
]
