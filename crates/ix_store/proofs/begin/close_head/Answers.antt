use Rattle.std.proofs.Common.{[], ◌∷◌, ◌∙◌}
use Rattle.ix_outside.proofs.Passing.{DiskCalls-none, LeavesOnly-none}
use Rattle.ix_store.proofs.Beginning.{new_now, close_now, closed_there, other_there}
use Rattle.ix_store.proofs.Calls.{one, first_call}
use Rattle.ix_store.proofs.Told.{of_told, makes_weaken, stays_none, writes_keep}
use Rattle.ix_store.specs.inside.Steps.{IsBegun}
use Rattle.ix_store.proofs.begin.close_head.Goals as goal

pub returns-then-starts_with-clause-closed : goal.returns-then-starts_with-clause-closed
returns-then-starts_with-clause-closed g c =
    makes_weaken _ _ _ _ (λ told is file same.
    let read = of_told _ _ told is c.requires.read in
    same ∙ closed_there c.args.bytes.now told.file _ c.starts_with.ensures.value read
    c.if-starts_with.true)
    (stays_none (g.S.Site.state c.args.site.now).disk)

pub returns-then-starts_with-clause-images : goal.returns-then-starts_with-clause-images
returns-then-starts_with-clause-images g c told is text short new =
    LeavesOnly-none (IsBegun text) _ _ (g.met.S.Site.lawful c.args.site.now)
    (new_now text short _ told is _ c.requires.settled new)

pub returns-then-starts_with-clause-calls : goal.returns-then-starts_with-clause-calls
returns-then-starts_with-clause-calls g c = DiskCalls-none _ _ (g.met.S.Site.lawful c.args.site.now)

pub returns-clause-images : goal.returns-clause-images
returns-clause-images g c told is text short new =
    let read = of_told _ _ told is c.requires.read in
    let other =
    other_there c.args.bytes.now told.file _ c.starts_with.ensures.value read
    c.if-starts_with.false in
    first_call (IsBegun text) _ _ _ _ (g.met.S.Site.lawful c.args.site.now) c.write_at.ensures.call
    (new_now text short _ told is _ c.requires.settled new)
    (close_now text short _ told is _ c.requires.settled new c.write_at.result _ other
    c.write_at.ensures.now)

pub returns-clause-calls : goal.returns-clause-calls
returns-clause-calls g c =
    one _ _ _ _ c.requires.attached c.write_at.ensures.attached c.write_at.ensures.call
    c.write_at.ensures.rest
    (writes_keep 0 (0 ∷ []) c.write_at.result _ _ c.write_at.ensures.file)
