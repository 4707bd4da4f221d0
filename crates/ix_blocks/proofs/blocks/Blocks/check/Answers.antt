use Rattle.std.proofs.Common.{◌∙◌, ap, sym, Ok, Err}
use Rattle.ix_blocks.specs.declared.claim.Claim.{Claim}
use Rattle.ix_blocks.specs.declared.keys.Fault.TheVariants.{NoAnswer, Ended}
use Rattle.ix_blocks.specs.inside.StoreCalls.{SeesHead, TimePasses}
use Rattle.ix_blocks.specs.Protocol.{IsLast}
use Rattle.ix_blocks.specs.inside.OwnerCalls.{Checks}
use Rattle.ix_blocks.proofs.Tellings.{told-map, told-both, some-same}
use Rattle.ix_blocks.proofs.Checking.{owner-waits, looked}
use Rattle.ix_blocks.proofs.blocks.Blocks.check.Goals as goal

pub returns-in-Ok-clause-goes : goal.returns-in-Ok-clause-goes
returns-in-Ok-clause-goes g c =
    told-both (SeesHead c.in-Ok.seen) TimePasses (Checks {T = Unit {0}} (Ok tt) c.args.self.now) _ _
    (λ old new sees time newest run who synced is own.
    looked newest run who synced c.args.self.now old new c.in-Ok.seen (IsLast who) is own time sees
    (λ w to from e. to (e ∙ c.if-seen-claim.true ∙ ap (λ (x : Claim). x.revision) (some-same _ _ (sym c.in-Some.is ∙ own.knows)))))
    c.in-Ok.ensures.sees c.look.ensures.rest

pub returns-in-Ok-2-clause-goes : goal.returns-in-Ok-2-clause-goes
returns-in-Ok-2-clause-goes g c =
    told-both (SeesHead c.in-Ok.seen) TimePasses (Checks {T = Unit {0}} (Err Ended) c.args.self.now) _ _
    (λ old new sees time newest run who synced is own.
    looked newest run who synced c.args.self.now old new c.in-Ok.seen (λ w. ¬ IsLast who w) is own time sees
    (λ w to from e last. c.if-seen-claim.false (sym e ∙ from last ∙ sym (ap (λ (x : Claim). x.revision) (some-same _ _ (sym c.in-Some.is ∙ own.knows))))))
    c.in-Ok.ensures.sees c.look.ensures.rest

pub returns-in-Err-clause-goes : goal.returns-in-Err-clause-goes
returns-in-Err-clause-goes g c =
    told-map TimePasses (Checks {T = Unit {0}} (Err NoAnswer) c.args.self.now) _ _
    (λ old new time newest run who synced is own. owner-waits newest run who synced c.args.self.now old new is own time)
    c.look.ensures.rest
