use Rattle.std.proofs.Common.{◌≡◌, ℕ, List, [], ◌+◌, ◌<◌, length, map, get_or, sym, ap, ◌∙◌, subst, arith}
use Rattle.std.proofs.lemmas.List.{length-map}
use Rattle.ix_blocks.specs.Register.{Transaction}
use Rattle.ix_blocks.specs.declared.request.Request.{Request}
use Rattle.ix_blocks.specs.inside.PlainBlocks.{plain_request}
use Rattle.ix_blocks.specs.inside.MemoryStore.{asks_nothing, blocks_after, picked, store_of}
use Rattle.ix_blocks.proofs.InMemory.{asked, refused, refused-register, applied, applied-register, register-made, one-more}
use Rattle.ix_blocks.proofs.memory.MemoryKeys.come.Goals as goal

pub returns-then-request-self-clause-within : goal.returns-then-request-self-clause-within
returns-then-request-self-clause-within c =
    let low = subst (λ (xs : List Request). c.args.which < length xs) c.deref.ensures.value c.in-Some.ensures.lookup.3.0 in
    omega (arith, low, length-map c.args.self.now.sent.items plain_request)

pub returns-then-request-self-clause-says : goal.returns-then-request-self-clause-says
returns-then-request-self-clause-says c =
    let low = subst (λ (xs : List Request). c.args.which < length xs) c.deref.ensures.value c.in-Some.ensures.lookup.3.0 in
    let is = subst (λ (xs : List Request). c.in-Some.request.now ≡ get_or xs c.args.which c.in-Some.request.now) c.deref.ensures.value (c.in-Some.ensures.lookup.3.1 c.in-Some.request.now) in
    let t = asked c.args.self.now.sent.items c.args.which c.in-Some.request.now low is in
    refused (get_or (map plain_request c.args.self.now.sent.items) c.args.which asks_nothing) (store_of c.args.self.now).register (λ e. c.if-request-self.true (sym (ap (λ (x : Transaction). x.guard) t) ∙ e))

pub returns-then-request-self-clause-register : goal.returns-then-request-self-clause-register
returns-then-request-self-clause-register c =
    let low = subst (λ (xs : List Request). c.args.which < length xs) c.deref.ensures.value c.in-Some.ensures.lookup.3.0 in
    let is = subst (λ (xs : List Request). c.in-Some.request.now ≡ get_or xs c.args.which c.in-Some.request.now) c.deref.ensures.value (c.in-Some.ensures.lookup.3.1 c.in-Some.request.now) in
    let t = asked c.args.self.now.sent.items c.args.which c.in-Some.request.now low is in
    refused-register (get_or (map plain_request c.args.self.now.sent.items) c.args.which asks_nothing) (store_of c.args.self.now).register (λ e. c.if-request-self.true (sym (ap (λ (x : Transaction). x.guard) t) ∙ e))

pub returns-clause-within : goal.returns-clause-within
returns-clause-within c =
    let low = subst (λ (xs : List Request). c.args.which < length xs) c.deref.ensures.value c.in-Some.ensures.lookup.3.0 in
    omega (arith, low, length-map c.args.self.now.sent.items plain_request)

pub returns-clause-says : goal.returns-clause-says
returns-clause-says c =
    let low = subst (λ (xs : List Request). c.args.which < length xs) c.deref.ensures.value c.in-Some.ensures.lookup.3.0 in
    let is = subst (λ (xs : List Request). c.in-Some.request.now ≡ get_or xs c.args.which c.in-Some.request.now) c.deref.ensures.value (c.in-Some.ensures.lookup.3.1 c.in-Some.request.now) in
    let t = asked c.args.self.now.sent.items c.args.which c.in-Some.request.now low is in
    let k : c.in-Some-checked_add.newest ≡ c.args.self.now.newest + 1 = omega (arith, c.in-Some-checked_add.ensures.1) in
    applied (get_or (map plain_request c.args.self.now.sent.items) c.args.which asks_nothing) (store_of c.args.self.now).register c.in-Some-checked_add.newest (ap (λ (x : Transaction). x.guard) t ∙ c.if-request-self.false) k

pub returns-clause-register : goal.returns-clause-register
returns-clause-register c =
    let low = subst (λ (xs : List Request). c.args.which < length xs) c.deref.ensures.value c.in-Some.ensures.lookup.3.0 in
    let is = subst (λ (xs : List Request). c.in-Some.request.now ≡ get_or xs c.args.which c.in-Some.request.now) c.deref.ensures.value (c.in-Some.ensures.lookup.3.1 c.in-Some.request.now) in
    let t = asked c.args.self.now.sent.items c.args.which c.in-Some.request.now low is in
    let k : c.in-Some-checked_add.newest ≡ c.args.self.now.newest + 1 = omega (arith, c.in-Some-checked_add.ensures.1) in
    let sent : List Transaction = map plain_request c.args.self.now.sent.items in
    applied-register (get_or (map plain_request c.args.self.now.sent.items) c.args.which asks_nothing) (store_of c.args.self.now).register _
    (ap (λ (x : Transaction). x.guard) t ∙ c.if-request-self.false)
    (register-made (get_or (map plain_request c.args.self.now.sent.items) c.args.which asks_nothing) (store_of c.args.self.now).register _ (ap (λ (x : Transaction). x.head) (sym t)) k k
    (ap (λ (places : List ℕ). blocks_after (λ n. []) (picked (map plain_request c.args.self.now.sent.items) places)) c.in-Ok.ensures.items
    ∙ one-more (map plain_request c.args.self.now.sent.items) c.args.self.now.applied.items c.args.which))
