use Rattle.std.proofs.Common.{inl, Ok, Err, None, Some, refl}
use Rattle.ix_blocks.specs.declared.blocks.Blocks.{Blocks}
use Rattle.ix_blocks.specs.declared.keys.Fault.TheVariants.{NoAnswer, Ended}
use Rattle.ix_blocks.specs.inside.PlainBlocks.{plain_request}
use Rattle.ix_blocks.specs.inside.StoreCalls.{SendsOne, AnswersSo}
use Rattle.ix_blocks.specs.inside.OwnerCalls.{Syncs, LeavesOneOfTwo}
use Rattle.ix_blocks.proofs.Tellings.{told-map, told-same, told-both}
use Rattle.ix_blocks.proofs.Syncs.{owned-stays}
use Rattle.ix_blocks.proofs.SyncCalls.{sync-unanswered, unanswered-whole, sync-ended, ended-whole, sync-done, done-whole}
use Rattle.ix_blocks.proofs.blocks.Blocks.sync.Goals as goal

pub returns-in-Err-clause-whole : goal.returns-in-Err-clause-whole
returns-in-Err-clause-whole g c =
    told-same (LeavesOneOfTwo c.args.self.now) _
    (λ store newest run who synced is own last arrivals were.
    inl (owned-stays newest run who synced c.args.self.now store is own last arrivals were))

pub returns-in_default-commit-clause-goes : goal.returns-in_default-commit-clause-goes
returns-in_default-commit-clause-goes g c =
    let t = plain_request c.in-Ok.request in
    let after : Blocks = record { claim = None; file = c.args.self.now.file } in
    told-map (SendsOne t) (Syncs {T = Unit {0}} (Err NoAnswer) c.args.self.now after) _ _
    (λ old new sends. sync-unanswered c.args.self.now c.in-Some.claim t c.in-Some.is c.in-Ok.ensures.request old new sends after)
    c.commit.ensures.rest

pub returns-in_default-commit-clause-whole : goal.returns-in_default-commit-clause-whole
returns-in_default-commit-clause-whole g c =
    let t = plain_request c.in-Ok.request in
    told-map (SendsOne t) (LeavesOneOfTwo c.args.self.now) _ _
    (λ old new sends. unanswered-whole c.args.self.now c.in-Some.claim t c.in-Some.is c.in-Ok.ensures.request old new sends)
    c.commit.ensures.rest

pub returns-then-not-learn-clause-goes : goal.returns-then-not-learn-clause-goes
returns-then-not-learn-clause-goes g c =
    let t = plain_request c.in-Ok.request in
    let says = c.in-Ok-commit.says in
    let after : Blocks = record { claim = None; file = c.args.self.now.file } in
    told-both (SendsOne t) (AnswersSo t says) (Syncs {T = Unit {0}} (Err Ended) c.args.self.now after) _ _
    (λ old new sends answers. sync-ended c.args.self.now c.in-Some.claim t c.in-Some.is c.in-Ok.ensures.request old new sends
    c.sync.new.claim says c.in-Ok.ensures.counted answers c.if-not-learn.ensures.learns after)
    c.commit.ensures.rest c.in-Ok-commit.ensures.answers

pub returns-then-not-learn-clause-whole : goal.returns-then-not-learn-clause-whole
returns-then-not-learn-clause-whole g c =
    let t = plain_request c.in-Ok.request in
    let says = c.in-Ok-commit.says in
    told-both (SendsOne t) (AnswersSo t says) (LeavesOneOfTwo c.args.self.now) _ _
    (λ old new sends answers. ended-whole c.args.self.now c.in-Some.claim t c.in-Some.is c.in-Ok.ensures.request old new sends
    c.sync.new.claim says c.in-Ok.ensures.counted answers c.if-not-learn.ensures.learns)
    c.commit.ensures.rest c.in-Ok-commit.ensures.answers

pub returns-clause-goes : goal.returns-clause-goes
returns-clause-goes g c =
    let t = plain_request c.in-Ok.request in
    let says = c.in-Ok-commit.says in
    let after : Blocks = record { claim = Some c.learn.new.self; file = c.settle.new.self } in
    told-both (SendsOne t) (AnswersSo t says) (Syncs {T = Unit {0}} (Ok tt) c.args.self.now after) _ _
    (λ old new sends answers. sync-done c.args.self.now c.in-Some.claim t c.in-Some.is c.in-Ok.ensures.request old new sends
    c.sync.new.claim says c.in-Ok.ensures.counted answers c.learn.new.self c.if-not-learn.ensures.learns after refl
    c.settle.ensures.changed c.settle.ensures.bytes)
    c.commit.ensures.rest c.in-Ok-commit.ensures.answers

pub returns-clause-whole : goal.returns-clause-whole
returns-clause-whole g c =
    let t = plain_request c.in-Ok.request in
    let says = c.in-Ok-commit.says in
    let after : Blocks = record { claim = Some c.learn.new.self; file = c.settle.new.self } in
    told-both (SendsOne t) (AnswersSo t says) (LeavesOneOfTwo c.args.self.now) _ _
    (λ old new sends answers. done-whole c.args.self.now c.in-Some.claim t c.in-Some.is c.in-Ok.ensures.request old new sends
    c.sync.new.claim says c.in-Ok.ensures.counted answers c.learn.new.self c.if-not-learn.ensures.learns after refl
    c.settle.ensures.changed c.settle.ensures.bytes)
    c.commit.ensures.rest c.in-Ok-commit.ensures.answers
