use Rattle.std.proofs.Common.{ℕ, List, [], ◌∷◌, map, ap, ◌∙◌, arith}
use Rattle.std.proofs.lemmas.List.{map-append, length-map}
use Rattle.ix_blocks.specs.Register.{Register, Transaction}
use Rattle.ix_blocks.specs.declared.request.Request.{Request}
use Rattle.ix_blocks.specs.inside.PlainBlocks.{plain_request}
use Rattle.ix_blocks.specs.inside.MemoryStore.{blocks_after, picked, store_of}
use Rattle.ix_blocks.proofs.InMemory.{picked-more}
use Rattle.ix_blocks.proofs.memory.MemoryKeys.send.Goals as goal

pub returns-clause-register : goal.returns-clause-register
returns-clause-register c =
    let items : List Request = c.args.self.now.sent.items in
    let places : List ℕ = c.args.self.now.applied.items in
    let made : (ℕ → List ℕ) → Register = λ b. record (store_of c.args.self.now).register { blocks = b } in
    ap made (ap (λ (xs : List Request). blocks_after (λ n. []) (picked (map plain_request xs) c.args.self.now.applied.items)) c.in-Ok.ensures.items
    ∙ ap (λ (ts : List Transaction). blocks_after (λ n. []) (picked ts c.args.self.now.applied.items)) (map-append plain_request c.args.self.now.sent.items (c.args.request ∷ []))
    ∙ ap (blocks_after (λ n. [])) (picked-more (map plain_request c.args.self.now.sent.items) (plain_request c.args.request ∷ []) c.args.self.now.applied.items
    (λ place low. let h = c.args.self.now.were_sent place low in omega (arith, h, length-map c.args.self.now.sent.items plain_request))))
