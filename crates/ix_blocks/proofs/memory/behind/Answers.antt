use Rattle.std.proofs.Common.{◌≡◌, ℕ, ◌+◌, suc, List, ◌∷◌, map, drop, sym, ap, ◌∙◌, subst, drop-cons, arith}
use Rattle.ix_blocks.specs.Register.{put_blocks}
use Rattle.ix_blocks.specs.declared.file.Block.{Block}
use Rattle.ix_blocks.specs.inside.PlainBlocks.{plain_block}
use Rattle.ix_blocks.proofs.InMemory.{put-this, put-another}
use Rattle.ix_blocks.proofs.memory.behind.Goals as goal
use Rattle.ix_blocks.proofs.memory.behind.Goals.{then-block-number, else-block-number}

pub loop-block-preserved : goal.loop-block-preserved
loop-block-preserved c =
    let same : c.deref-block-items.result.now ≡ c.args.request.now.puts.items = c.deref-block-items.ensures.value in
    let next : suc c.loop-block.block-index ≡ c.loop-block.block-index + 1 = omega arith in
    let split : drop c.loop-block.block-index c.args.request.now.puts.items ≡ c.block-item.result ∷ drop (c.loop-block.block-index + 1) c.args.request.now.puts.items =
    subst (λ (xs : List Block). drop c.loop-block.block-index xs ≡ c.block-item.result ∷ drop (c.loop-block.block-index + 1) xs) same
    (drop-cons c.deref-block-items.result.now c.loop-block.block-index c.block-item.result c.loop-block-test.true
    ∙ ap (λ (b : Block). b ∷ drop (suc c.loop-block.block-index) c.deref-block-items.result.now) (sym c.block-item.is)
    ∙ ap (λ (k : ℕ). c.block-item.result ∷ drop k c.deref-block-items.result.now) next) in
    let left = sym (ap (λ (xs : List Block). put_blocks (λ n. c.loop-block.bytes.now) (map plain_block xs) c.args.number) split) ∙ c.loop-block.invariant in
    elim c.if-block-number.branch [
      | then-block-number w ↦
          ap (λ (xs : List ℕ). put_blocks (λ n. xs) (map plain_block (drop (c.loop-block.block-index + 1) c.args.request.now.puts.items)) c.args.number) (ap (λ b. b.now) w.bytes-is ∙ w.deref-bytes.ensures.value)
          ∙ put-this (plain_block c.block-item.result) (map plain_block (drop (c.loop-block.block-index + 1) c.args.request.now.puts.items)) c.loop-block.bytes.now c.args.number w.if-block-number.true ∙ left
      | else-block-number w ↦
          ap (λ (xs : List ℕ). put_blocks (λ n. xs) (map plain_block (drop (c.loop-block.block-index + 1) c.args.request.now.puts.items)) c.args.number) (ap (λ b. b.now) w.bytes-is)
          ∙ put-another (plain_block c.block-item.result) (map plain_block (drop (c.loop-block.block-index + 1) c.args.request.now.puts.items)) c.loop-block.bytes.now c.args.number w.if-block-number.false ∙ left
    ]
