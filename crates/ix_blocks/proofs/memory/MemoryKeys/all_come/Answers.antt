use Rattle.std.proofs.Common.{refl, sym, subst}
use Rattle.ix_blocks.specs.inside.StoreCalls.{TimePasses}
use Rattle.ix_blocks.specs.declared.memory.MemoryKeys.{MemoryKeys}
use Rattle.ix_blocks.specs.inside.MemoryStore.{store_of}
use Rattle.ix_blocks.proofs.ReadingOn.{time-join}
use Rattle.ix_blocks.proofs.InMemory.{time-same, come-passes}
use Rattle.ix_blocks.proofs.memory.MemoryKeys.all_come.Goals as goal
use Rattle.ix_blocks.proofs.memory.MemoryKeys.all_come.Goals.{in-Sent, in-Elsewhere}

pub loop-arrival-init : goal.loop-arrival-init
loop-arrival-init c = time-same (store_of c.args.self.now) (store_of c.args.self.now) refl refl

pub loop-arrival-preserved : goal.loop-arrival-preserved
loop-arrival-preserved c =
    let start = store_of c.args.self.now in
    let before = store_of c.loop-arrival.self in
    elim c.match-arrival.branch [
      | in-Sent w ↦ subst (λ (k : MemoryKeys). TimePasses (store_of c.args.self.now) (store_of k)) (sym w.self-is)
          (time-join (store_of c.args.self.now) (store_of c.loop-arrival.self) (store_of w.come-answer.new.self) c.loop-arrival.invariant
          (come-passes (store_of c.loop-arrival.self) (store_of w.come-answer.new.self) w.in-Sent.which w.come-answer.result w.come-answer.ensures.within w.come-answer.ensures.register w.come-answer.ensures.sent w.come-answer.ensures.err))
      | in-Elsewhere w ↦ subst (λ (k : MemoryKeys). TimePasses (store_of c.args.self.now) (store_of k)) (sym w.self-is)
          (time-join (store_of c.args.self.now) (store_of c.loop-arrival.self) (store_of w.rise.new.self) c.loop-arrival.invariant w.rise.ensures)
    ]
