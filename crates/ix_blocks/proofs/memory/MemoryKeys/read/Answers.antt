use Rattle.std.proofs.Common.{◌≡◌, ℕ, ◌+◌, ◌<◌, ◌≤◌, suc, List, ◌∷◌, length, map, drop, get_or, sym, ap, ◌∙◌, subst, drop-cons, arith}
use Rattle.ix_blocks.specs.Register.{Transaction}
use Rattle.ix_blocks.specs.declared.request.Request.{Request}
use Rattle.ix_blocks.specs.inside.PlainBlocks.{plain_request}
use Rattle.ix_blocks.specs.inside.MemoryStore.{asks_nothing, blocks_behind, blocks_after, picked}
use Rattle.ix_blocks.proofs.InMemory.{asked, after-at}
use Rattle.ix_blocks.proofs.memory.MemoryKeys.read.Goals as goal
use Rattle.ix_blocks.proofs.memory.MemoryKeys.read.Goals.{in-Some, in_default}

pub loop-which-preserved : goal.loop-which-preserved
loop-which-preserved c =
    let items : List Request = c.args.self.now.sent.items in
    let places : List ℕ = c.args.self.now.applied.items in
    let same : c.deref-which-items.result.now ≡ c.args.self.now.applied.items = c.deref-which-items.ensures.value in
    let i = c.loop-which.which-index in
    let low : c.loop-which.which-index < length c.args.self.now.applied.items = subst (λ (xs : List ℕ). c.loop-which.which-index < length xs) same c.loop-which-test.true in
    let which : ℕ = get_or c.deref-which-items.result.now c.loop-which.which-index 0 in
    let is_which : get_or c.deref-which-items.result.now c.loop-which.which-index 0 ≡ get_or c.args.self.now.applied.items c.loop-which.which-index 0 = ap (λ (xs : List ℕ). get_or xs c.loop-which.which-index 0) same in
    let rest : List ℕ = drop (c.loop-which.which-index + 1) c.args.self.now.applied.items in
    let next : suc c.loop-which.which-index ≡ c.loop-which.which-index + 1 = omega arith in
    let split : drop c.loop-which.which-index c.args.self.now.applied.items ≡ get_or c.deref-which-items.result.now c.loop-which.which-index 0 ∷ drop (c.loop-which.which-index + 1) c.args.self.now.applied.items =
    drop-cons c.args.self.now.applied.items c.loop-which.which-index 0 low
    ∙ ap (λ (w : ℕ). w ∷ drop (suc c.loop-which.which-index) c.args.self.now.applied.items) (sym is_which)
    ∙ ap (λ (k : ℕ). get_or c.deref-which-items.result.now c.loop-which.which-index 0 ∷ drop k c.args.self.now.applied.items) next in
    let left = sym (ap (λ (xs : List ℕ). blocks_after (λ n. c.loop-which.bytes.now) (picked (map plain_request c.args.self.now.sent.items) xs) c.args.number) split) ∙ c.loop-which.invariant in
    elim c.match-get.branch [
      | in-Some w ↦
          let within = subst (λ (xs : List Request). get_or c.deref-which-items.result.now c.loop-which.which-index 0 < length xs) c.deref.ensures.value w.in-Some.ensures.lookup.3.0 in
          let is = subst (λ (xs : List Request). w.in-Some.request.now ≡ get_or xs (get_or c.deref-which-items.result.now c.loop-which.which-index 0) w.in-Some.request.now) c.deref.ensures.value (w.in-Some.ensures.lookup.3.1 w.in-Some.request.now) in
          let t = asked c.args.self.now.sent.items (get_or c.deref-which-items.result.now c.loop-which.which-index 0) w.in-Some.request.now within is in
          let made = ap (λ b. b.now) w.bytes-is ∙ w.behind-bytes.ensures ∙ ap (λ (x : Transaction). blocks_behind (λ n. c.loop-which.bytes.now) x c.args.number) (sym t) in
          after-at (picked (map plain_request c.args.self.now.sent.items) (drop (c.loop-which.which-index + 1) c.args.self.now.applied.items)) (λ n. c.match-get.bytes.now)
          (blocks_behind (λ n. c.loop-which.bytes.now) (get_or (map plain_request c.args.self.now.sent.items) (get_or c.deref-which-items.result.now c.loop-which.which-index 0) asks_nothing)) c.args.number made ∙ left
      | in_default w ↦
          let was = c.args.self.now.were_sent c.loop-which.which-index low in
          let past = subst (λ (xs : List Request). length xs ≤ get_or c.deref-which-items.result.now c.loop-which.which-index 0) c.deref.ensures.value w.in_default.ensures.lookup.3 in
          absurd (omega (arith, was, past, is_which))
    ]
