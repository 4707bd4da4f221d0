use Rattle.std.proofs.Common.{ℕ, ◌≡◌, ◌+◌, refl, ap, arith}
use Rattle.ix_blocks.specs.Register.{Register}
use Rattle.ix_blocks.specs.inside.MemoryStore.{store_of}
use Rattle.ix_blocks.proofs.InMemory.{time-same, time-rises}
use Rattle.ix_blocks.proofs.memory.MemoryKeys.rise.Goals as goal

pub returns-in-Some : goal.returns-in-Some
returns-in-Some c =
    let k : c.in-Some.newest ≡ c.args.self.now.newest + 1 = omega (arith, c.in-Some.ensures.1) in
    let made : ℕ → Register = λ n. record (store_of c.args.self.now).register { newest = n } in
    time-rises (store_of c.args.self.now) _ (ap made k) refl

pub returns-in_default : goal.returns-in_default
returns-in_default c = time-same (store_of c.args.self.now) (store_of c.args.self.now) refl refl
