use Rattle.std.proofs.Common.{◌∙◌}
use Rattle.ix_outside.proofs.Passing.{DiskCalls-none, DiskCalls-join}
use Rattle.ix_journal.specs.inside.Writing.{digit_of}
use Rattle.ix_journal.proofs.WritingLaws.{is_version}
use Rattle.ix_store.proofs.Begun.{headed_images, opened_images}
use Rattle.ix_store.proofs.Told.{of_told, made}
use Rattle.ix_store.proofs.begin.begin.Goals as goal

pub returns-in_err-header-clause-calls : goal.returns-in_err-header-clause-calls
returns-in_err-header-clause-calls g c = DiskCalls-none _ _ (g.met.S.Site.lawful c.args.site.now)

pub returns-in_err-clear-clause-images : goal.returns-in_err-clear-clause-images
returns-in_err-clear-clause-images g c told is =
    c.clear.ensures.images told is c.args.text.now c.requires.short
    (of_told _ _ told is c.requires.is_new)

pub returns-in_err-write_through-clause-images :
    goal.returns-in_err-write_through-clause-images
returns-in_err-write_through-clause-images g c told is =
    let cleared = c.clear.ensures in
    let there = made _ _ _ told is c.in_ok-clear.ensures.cleared in
    headed_images (digit_of c.args.version) (is_version c.args.version) c.args.text.now c.requires.short _ _ _ _
    (g.met.S.Site.lawful c.clear.new.site) cleared.calls
    (cleared.images told is c.args.text.now c.requires.short
    (of_told _ _ told is c.requires.is_new))
    there.disk there.told there.makes c.in_ok-clear.ensures.settled c.deref.result.now
    _ _ c.write_through.ensures.calls c.write_through.ensures.images

pub returns-in_err-write_through-2-clause-images :
    goal.returns-in_err-write_through-2-clause-images
returns-in_err-write_through-2-clause-images g c told is =
    let cleared = c.clear.ensures in
    let there = made _ _ _ told is c.in_ok-clear.ensures.cleared in
    opened_images (digit_of c.args.version) (is_version c.args.version) c.args.text.now c.requires.short _ _ _ _
    (g.met.S.Site.lawful c.clear.new.site) cleared.calls
    (cleared.images told is c.args.text.now c.requires.short
    (of_told _ _ told is c.requires.is_new))
    there.disk there.told there.makes c.in_ok-clear.ensures.settled c.deref.result.now
    _ _ c.write_through.ensures.calls c.write_through.ensures.images
    (g.met.S.Site.lawful c.write_through.new.site) (c.deref.ensures.value ∙ c.in_ok-header.ensures)
    c.in_ok-write_through.ensures.written c.in_ok-write_through.ensures.settled
    _ _ c.write_through-2.ensures.calls c.write_through-2.ensures.images

pub returns-clause-images : goal.returns-clause-images
returns-clause-images g c told is =
    let cleared = c.clear.ensures in
    let there = made _ _ _ told is c.in_ok-clear.ensures.cleared in
    opened_images (digit_of c.args.version) (is_version c.args.version) c.args.text.now c.requires.short _ _ _ _
    (g.met.S.Site.lawful c.clear.new.site) cleared.calls
    (cleared.images told is c.args.text.now c.requires.short
    (of_told _ _ told is c.requires.is_new))
    there.disk there.told there.makes c.in_ok-clear.ensures.settled c.deref.result.now
    _ _ c.write_through.ensures.calls c.write_through.ensures.images
    (g.met.S.Site.lawful c.write_through.new.site) (c.deref.ensures.value ∙ c.in_ok-header.ensures)
    c.in_ok-write_through.ensures.written c.in_ok-write_through.ensures.settled
    _ _ c.write_through-2.ensures.calls c.write_through-2.ensures.images

pub returns-in_err-write_through-2-clause-calls :
    goal.returns-in_err-write_through-2-clause-calls
returns-in_err-write_through-2-clause-calls g c =
    DiskCalls-join _ _ _ _ _ _ (g.met.S.Site.lawful c.write_through-2.new.site)
    (DiskCalls-join _ _ _ _ _ _ (g.met.S.Site.lawful c.write_through.new.site)
    c.clear.ensures.calls c.write_through.ensures.calls)
    c.write_through-2.ensures.calls

pub returns-clause-calls : goal.returns-clause-calls
returns-clause-calls g c =
    DiskCalls-join _ _ _ _ _ _ (g.met.S.Site.lawful c.write_through-2.new.site)
    (DiskCalls-join _ _ _ _ _ _ (g.met.S.Site.lawful c.write_through.new.site)
    c.clear.ensures.calls c.write_through.ensures.calls)
    c.write_through-2.ensures.calls
