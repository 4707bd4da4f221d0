use Rattle.ix_outside.proofs.Passing.{DiskCalls-join, KeepsOpened-makes}
use Rattle.ix_store.proofs.Calls.{one, first_call, calls_more, sync_now}
use Rattle.ix_store.proofs.Opened.{found_before, settles, counts_on}
use Rattle.ix_store.proofs.ReadCalls.{reads_settled, stays_join}
use Rattle.ix_store.proofs.find.sync_and_find.Goals as goal

pub returns-in_err-sync-clause-calls : goal.returns-in_err-sync-clause-calls
returns-in_err-sync-clause-calls g c =
    let sync = c.sync.ensures in
    one _ _ _ _ c.requires sync.attached sync.call sync.rest (KeepsOpened-makes _ _ _ sync.file)

pub returns-clause-calls : goal.returns-clause-calls
returns-clause-calls g c =
    let sync = c.sync.ensures in
    DiskCalls-join _ _ _ _ _ _ (g.met.S.Site.lawful c.find.new.site)
    (one _ _ _ _ c.requires sync.attached sync.call sync.rest (KeepsOpened-makes _ _ _ sync.file))
    c.find.ensures.reads.calls

pub returns-clause-file : goal.returns-clause-file
returns-clause-file g c =
    found_before c.args.text.now c.find.result _ _ c.sync.ensures.file c.find.ensures.file

pub returns-clause-settled : goal.returns-clause-settled
returns-clause-settled g c =
    settles c.find.result _ _
    (reads_settled _ _ _ _ c.find.ensures.reads c.in_ok-sync.ensures.now)

pub returns-clause-stays : goal.returns-clause-stays
returns-clause-stays g c = stays_join _ _ _ c.sync.ensures.file c.find.ensures.reads.stays

pub returns-clause-images : goal.returns-clause-images
returns-clause-images g c told is =
    let was = (g.S.Site.crashes c.args.site.now).now in
    let sync = c.sync.ensures in
    let lawful = g.met.S.Site.lawful c.args.site.now in
    let calls = one _ _ _ _ c.requires sync.attached sync.call sync.rest
    (KeepsOpened-makes _ _ _ sync.file) in
    let synced = sync_now was c.sync.result told _ _ _ _ is lawful.file sync.file sync.now
    (λ image here. here) in
    calls_more was _ _ _ _ calls
    (first_call was _ _ _ _ lawful sync.call (λ image here. here) synced) _ _
    c.find.ensures.reads.calls
    (λ image left. synced image (c.find.ensures.reads.images image left))

pub returns-clause-failed : goal.returns-clause-failed
returns-clause-failed g c =
    counts_on c.find.result _ _ _ c.in_ok-sync.ensures.failed c.find.ensures.failed
