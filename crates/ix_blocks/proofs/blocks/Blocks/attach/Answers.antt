use Rattle.std.proofs.Common.{ap, subst, Some}
use Rattle.ix_blocks.specs.declared.blocks.Blocks.{Blocks}
use Rattle.ix_blocks.specs.declared.keys.Fault.TheVariants.{NoAnswer, Ended}
use Rattle.ix_blocks.specs.inside.PlainBlocks.{plain_request}
use Rattle.ix_blocks.specs.inside.Reading.{ReadsFront}
use Rattle.ix_blocks.specs.FileBlocks.{block_count}
use Rattle.ix_blocks.specs.Owners.{attach_of}
use Rattle.ix_blocks.specs.Stores.{Store}
use Rattle.ix_blocks.specs.inside.StoreCalls.{SeesHead, TimePasses, SendsOne, AnswersSo}
use Rattle.ix_blocks.specs.inside.OwnerCalls.{TakesFile, TakesNothing}
use Rattle.ix_blocks.proofs.Tellings.{told-map, told-both, told-join}
use Rattle.ix_blocks.proofs.Taking.{Looked, Committed, take-over, take-nothing, send-nothing, look-nothing, no-time, refused-ends}
use Rattle.ix_blocks.proofs.blocks.Blocks.attach.Goals as goal

pub returns-in_default-clause-fails : goal.returns-in_default-clause-fails
returns-in_default-clause-fails g c =
    told-map TimePasses (TakesNothing NoAnswer) _ _ (λ a b time. look-nothing a b time) c.look.ensures.rest

pub returns-in_default-commit-clause-fails : goal.returns-in_default-commit-clause-fails
returns-in_default-commit-clause-fails g c =
    let seen = c.in-Ok.seen in
    told-join (Looked c.in-Ok.seen) (SendsOne (plain_request c.attach.result)) (TakesNothing NoAnswer) _ _ _
    (λ a b d look sends. send-nothing c.in-Ok.seen a b look.sees look.time d (subst (λ t. SendsOne t b d) c.attach.ensures sends))
    (told-both (SeesHead c.in-Ok.seen) TimePasses (Looked c.in-Ok.seen) _ _ (λ a b s t. record { sees = s; time = t }) c.in-Ok.ensures.sees c.look.ensures.rest)
    c.commit.ensures.rest

pub returns-in_default-says-clause-fails : goal.returns-in_default-says-clause-fails
returns-in_default-says-clause-fails g c =
    told-join (Looked c.in-Ok.seen) (Committed c.in-Ok.seen c.in-Ok-commit.says) (TakesNothing Ended) _ _ _
    (λ a b d look done. take-nothing c.in-Ok.seen a b look.sees look.time Ended c.in-Ok-commit.says d d done.sends done.answers (no-time d)
    (λ e. refused-ends c.in-Ok-commit.says c.in_default-says.not-Applied))
    (told-both (SeesHead c.in-Ok.seen) TimePasses (Looked c.in-Ok.seen) _ _ (λ a b s t. record { sees = s; time = t }) c.in-Ok.ensures.sees c.look.ensures.rest)
    (told-both (SendsOne (plain_request c.attach.result)) (AnswersSo (plain_request c.attach.result) c.in-Ok-commit.says) (Committed c.in-Ok.seen c.in-Ok-commit.says) _ _
    (λ a b s t. record { sends = subst (λ x. SendsOne x a b) c.attach.ensures s; answers = subst (λ x. AnswersSo x c.in-Ok-commit.says a b) c.attach.ensures t })
    c.commit.ensures.rest c.in-Ok-commit.ensures.answers)

pub returns-in-Ok-read_file-clause-takes : goal.returns-in-Ok-read_file-clause-takes
returns-in-Ok-read_file-clause-takes g c =
    let blocks : Blocks = record { claim = Some c.attached.result; file = c.in-Ok-read_file.file } in
    let bytes = c.in-Ok-read_file.file.bytes.items in
    told-join (Looked c.in-Ok.seen) (λ (b d : Store). (mid : Store) × Committed c.in-Ok.seen c.in-Ok-commit.says b mid × ReadsFront c.in-Applied.revision (block_count c.in-Ok-read_file.file.bytes.items) c.in-Ok-read_file.file.bytes.items mid d) (TakesFile blocks) _ _ _
    (λ a b d look done. take-over c.in-Ok.seen a b look.sees look.time blocks c.in-Applied.revision done.0 d done.1.sends
    (subst (λ s. AnswersSo (attach_of c.in-Ok.seen) s b done.0) c.in-Applied.is done.1.answers) done.2 c.in-Ok-read_file.ensures.long (ap Some c.attached.ensures))
    (told-both (SeesHead c.in-Ok.seen) TimePasses (Looked c.in-Ok.seen) _ _ (λ a b s t. record { sees = s; time = t }) c.in-Ok.ensures.sees c.look.ensures.rest)
    (told-join (Committed c.in-Ok.seen c.in-Ok-commit.says) (ReadsFront c.in-Applied.revision (block_count c.in-Ok-read_file.file.bytes.items) c.in-Ok-read_file.file.bytes.items)
    (λ (b d : Store). (mid : Store) × Committed c.in-Ok.seen c.in-Ok-commit.says b mid × ReadsFront c.in-Applied.revision (block_count c.in-Ok-read_file.file.bytes.items) c.in-Ok-read_file.file.bytes.items mid d) _ _ _
    (λ b mid d done read. (mid, done, read))
    (told-both (SendsOne (plain_request c.attach.result)) (AnswersSo (plain_request c.attach.result) c.in-Ok-commit.says) (Committed c.in-Ok.seen c.in-Ok-commit.says) _ _
    (λ a b s t. record { sends = subst (λ x. SendsOne x a b) c.attach.ensures s; answers = subst (λ x. AnswersSo x c.in-Ok-commit.says a b) c.attach.ensures t })
    c.commit.ensures.rest c.in-Ok-commit.ensures.answers)
    c.in-Ok-read_file.ensures.reads)

pub returns-in-Err-clause-fails : goal.returns-in-Err-clause-fails
returns-in-Err-clause-fails g c =
    told-join (Looked c.in-Ok.seen) (λ (b d : Store). (mid : Store) × Committed c.in-Ok.seen c.in-Ok-commit.says b mid × TimePasses mid d) (TakesNothing c.in-Err.fault) _ _ _
    (λ a b d look done. take-nothing c.in-Ok.seen a b look.sees look.time c.in-Err.fault c.in-Ok-commit.says done.0 d done.1.sends done.1.answers done.2
    (λ e. absurd (c.in-Err.ensures.fault e)))
    (told-both (SeesHead c.in-Ok.seen) TimePasses (Looked c.in-Ok.seen) _ _ (λ a b s t. record { sees = s; time = t }) c.in-Ok.ensures.sees c.look.ensures.rest)
    (told-join (Committed c.in-Ok.seen c.in-Ok-commit.says) TimePasses
    (λ (b d : Store). (mid : Store) × Committed c.in-Ok.seen c.in-Ok-commit.says b mid × TimePasses mid d) _ _ _
    (λ b mid d done time. (mid, done, time))
    (told-both (SendsOne (plain_request c.attach.result)) (AnswersSo (plain_request c.attach.result) c.in-Ok-commit.says) (Committed c.in-Ok.seen c.in-Ok-commit.says) _ _
    (λ a b s t. record { sends = subst (λ x. SendsOne x a b) c.attach.ensures s; answers = subst (λ x. AnswersSo x c.in-Ok-commit.says a b) c.attach.ensures t })
    c.commit.ensures.rest c.in-Ok-commit.ensures.answers)
    c.read_file.ensures.rest)
