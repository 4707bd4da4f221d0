-- Each write goes on where the one before ended.
use Rattle.std.proofs.Common.{rules, take}
use Rattle.ix_many.proofs.Writing.{put_slice, put_nothing, put_front}
use Rattle.ix_many.proofs.passing.put.Goals.{in-Ok, in-Err}
use Rattle.ix_many.proofs.passing.put.Goals as goal

pub returns-in-Err-3-clause-part : goal.returns-in-Err-3-clause-part
returns-in-Err-3-clause-part g c =
    put_front (g.W.Write.contents c.args.stream.now) (g.W.Write.contents c.loop.stream) (g.W.Write.contents c.write.new.self)
    c.loop.count c.args.bytes.now c.loop.invariant.1 c.in-Err.ensures.bytes

pub loop-preserved : goal.loop-preserved
loop-preserved g c = elim c.match-write.branch [
  | in-Ok w ↦ rw w.count-is (
    search rules,
    put_slice (g.W.Write.contents c.args.stream.now) (g.W.Write.contents c.loop.stream) (g.W.Write.contents c.write.new.self)
        c.loop.count w.in-Ok.more c.args.bytes.now c.loop.invariant.1 w.in-Ok.ensures.bytes,
  )
  | in-Err w ↦ rw w.count-is (
    c.loop.invariant.0,
    put_nothing (g.W.Write.contents c.args.stream.now) (g.W.Write.contents c.loop.stream) (g.W.Write.contents c.write.new.self)
        (take c.loop.count c.args.bytes.now) c.loop.invariant.1 w.in-Err.ensures.bytes,
  )
]
