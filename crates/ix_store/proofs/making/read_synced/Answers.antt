use Rattle.ix_outside.proofs.Passing.{DiskCalls-join, KeepsOpened-makes}
use Rattle.ix_store.proofs.Calls.{one}
use Rattle.ix_store.proofs.making.read_synced.Goals as goal

pub returns-in_err-sync-clause-calls : goal.returns-in_err-sync-clause-calls
returns-in_err-sync-clause-calls g c =
    let sync = c.sync.ensures in
    one _ _ _ _ c.requires sync.attached sync.call sync.rest (KeepsOpened-makes _ _ _ sync.file)

pub returns-clause-calls : goal.returns-clause-calls
returns-clause-calls g c =
    let sync = c.sync.ensures in
    DiskCalls-join _ _ _ _ _ _ (g.met.S.Site.lawful c.read_head.new.site)
    (one _ _ _ _ c.requires sync.attached sync.call sync.rest (KeepsOpened-makes _ _ _ sync.file))
    c.read_head.ensures.reads.calls
