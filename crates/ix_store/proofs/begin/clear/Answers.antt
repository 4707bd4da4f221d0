use Rattle.std.proofs.Common.{◌≤◌, length}
use Rattle.ix_outside.proofs.Passing.{DiskCalls-join, KeepsOpened-makes}
use Rattle.ix_store.proofs.Beginning.{longer_closed}
use Rattle.ix_store.proofs.Calls.{more, sync_now, now_has, call_more, calls_more}
use Rattle.ix_store.proofs.Told.{of_told, to_told, made, came}
use Rattle.ix_store.specs.inside.Steps.{IsBegun}
use Rattle.ix_store.proofs.begin.clear.Goals as goal

pub cut_behind_head-requires-clause-read : goal.cut_behind_head-requires-clause-read
cut_behind_head-requires-clause-read g c =
    to_told (λ file. length c.args.bytes.now ≤ 1 → length file ≤ 1)
    (g.S.Site.state c.close_head.new.site).disk
    (λ told is few.
    let before = came _ _ _ told is c.in_ok-close_head.ensures.closed in
    let read = of_told _ _ before.disk before.told c.requires.read in
    longer_closed c.args.bytes.now before.disk.file told.file read before.makes few)

pub returns-in_err-cut_behind_head-clause-images :
    goal.returns-in_err-cut_behind_head-clause-images
returns-in_err-cut_behind_head-clause-images g c told is text short new =
    let P = IsBegun text in
    let head = c.close_head.ensures in
    let closed = head.images told is text short new in
    let lawful = g.met.S.Site.lawful c.close_head.new.site in
    calls_more P _ _ _ _ head.calls closed _ _ c.cut_behind_head.ensures.calls
    (c.cut_behind_head.ensures.images text (now_has P _ _ _ _ head.calls closed lawful))

pub returns-clause-images : goal.returns-clause-images
returns-clause-images g c told is text short new =
    let P = IsBegun text in
    let head = c.close_head.ensures in
    let closed = head.images told is text short new in
    let lawful = g.met.S.Site.lawful c.close_head.new.site in
    let so_far = calls_more P _ _ _ _ head.calls closed _ _ c.cut_behind_head.ensures.calls
    (c.cut_behind_head.ensures.images text (now_has P _ _ _ _ head.calls closed lawful)) in
    let lawful' = g.met.S.Site.lawful c.cut_behind_head.new.site in
    let calls = DiskCalls-join _ _ _ _ _ _ lawful' head.calls c.cut_behind_head.ensures.calls in
    let there = made _ _ _ told is calls.opened in
    call_more P _ _ _ _ calls so_far _ _ lawful' c.sync.ensures.call
    (sync_now P c.sync.result there.disk _ _ _ _ there.told lawful'.file c.sync.ensures.file
    c.sync.ensures.now
    (now_has P _ _ _ _ calls so_far lawful'))

pub returns-clause-calls : goal.returns-clause-calls
returns-clause-calls g c =
    let calls =
    DiskCalls-join _ _ _ _ _ _
    (g.met.S.Site.lawful c.cut_behind_head.new.site) c.close_head.ensures.calls
    c.cut_behind_head.ensures.calls in
    more _ _ _ _ _ _
    (g.met.S.Site.lawful c.sync.new.self) c.requires.attached calls c.sync.ensures.attached
    c.sync.ensures.call c.sync.ensures.rest (KeepsOpened-makes _ _ _ c.sync.ensures.file)
