use Rattle.ix_outside.proofs.Passing.{DiskCalls-join, KeepsOpened-makes}
use Rattle.ix_store.proofs.Calls.{one}
use Rattle.ix_store.proofs.Told.{writes_keep}
use Rattle.ix_store.proofs.write.write_through.Goals as goal

pub returns-in_err-write_at-clause-calls : goal.returns-in_err-write_at-clause-calls
returns-in_err-write_at-clause-calls g c =
    one _ _ _ _ c.requires.attached c.write_at.ensures.attached c.write_at.ensures.call
    c.write_at.ensures.rest
    (writes_keep c.args.at c.args.bytes.now c.write_at.result _ _ c.write_at.ensures.file)

pub returns-clause-calls : goal.returns-clause-calls
returns-clause-calls g c =
    DiskCalls-join _ _ _ _ _ _ (g.met.S.Site.lawful c.sync.new.self)
    (one _ _ _ _ c.requires.attached c.write_at.ensures.attached c.write_at.ensures.call
    c.write_at.ensures.rest
    (writes_keep c.args.at c.args.bytes.now c.write_at.result _ _ c.write_at.ensures.file))
    (one _ _ _ _ c.write_at.ensures.attached c.sync.ensures.attached c.sync.ensures.call
    c.sync.ensures.rest
    (KeepsOpened-makes _ _ _ c.sync.ensures.file))
