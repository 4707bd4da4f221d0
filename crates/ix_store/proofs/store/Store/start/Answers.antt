use Rattle.std.proofs.Common.{◌≡◌, ◌+◌, ℕ, List, length, ◌∙◌, sym, ap, subst}
use Rattle.ix_journal.specs.Entries.{fresh}
use Rattle.ix_journal.specs.Recovery.{IsJournalWith}
use Rattle.ix_journal.specs.declared.entries.Marks.{Marks}
use Rattle.ix_journal.specs.History.{PlainHistory}
use Rattle.std.specs.Option.{ForSome}
use Rattle.ix_store.specs.Opening.{IsNew}
use Rattle.ix_store.specs.inside.Refusals.{RefusesFileAs}
use Rattle.ix_store.specs.inside.Opens.{Opens}
use Rattle.ix_outside.specs.Disk.{Stays}
use Rattle.ix_store.specs.inside.Reading.{IsHeadOf}
use Rattle.ix_store.specs.inside.Starting.{MakesNew, new_journal}
use Rattle.ix_store.proofs.Opened.{found_journal, found_new, found_sound}
use Rattle.ix_store.proofs.Opened.{opens_new, opens_journal, fits_only, leaves_same, leaves_begun}
use Rattle.ix_store.proofs.Opened.{made_anew, ready_not_new, refused_up, refuses_any}
use Rattle.ix_store.proofs.ReadCalls.{stays_then}
use Rattle.ix_store.proofs.Told.{of_told, to_told, made, came, makes_weaken}
use Rattle.ix_store.proofs.store.Store.start.Goals as goal

-- it is ready
pub invariant_of-store : goal.invariant_of-store
invariant_of-store g c =
    let kept = c.in-Journal.kept in
    let sound = found_sound _ kept c.in-Journal.is c.in_ok-found.ensures.sound in
    record { near = sound.0.near; few = sound.0.few; sound = sound.0.sound }

pub returns-in-Journal-clause-opened : goal.returns-in-Journal-clause-opened
returns-in-Journal-clause-opened g c told is =
    let kept = c.in-Journal.kept in
    let text = c.args.text.now in
    opens_journal told.file text _ kept.marks kept.gate
    (found_journal text _ kept told.file c.in-Journal.is
    (of_told _ _ told is c.in_ok-found.ensures.file))

pub returns-in-Journal-clause-fits : goal.returns-in-Journal-clause-fits
returns-in-Journal-clause-fits g c =
    let kept = c.in-Journal.kept in
    let text = c.args.text.now in
    let sound = found_sound _ kept c.in-Journal.is c.in_ok-found.ensures.sound in
    fits_only _ _ _ text kept.history sound.0.counted c.in_ok-found.ensures.settled
    (λ disk told.
    let before = came _ _ _ disk told c.sync_and_find.ensures.stays in
    subst (λ (f : List ℕ). IsJournalWith f text kept.history kept.marks kept.gate) (sym before.makes)
    (found_journal text _ kept before.disk.file c.in-Journal.is
    (of_told _ _ before.disk before.told c.in_ok-found.ensures.file)))

pub returns-in-Journal-clause-valid : goal.returns-in-Journal-clause-valid
returns-in-Journal-clause-valid g c =
    (found_sound _ c.in-Journal.kept c.in-Journal.is
    c.in_ok-found.ensures.sound).0.valid

pub returns-in-Journal-clause-images : goal.returns-in-Journal-clause-images
returns-in-Journal-clause-images g c told is =
    leaves_same c.args.text.now told.file _ _ _ _ c.sync_and_find.ensures.stays
    (c.sync_and_find.ensures.images told is)

pub returns-in-Journal-clause-made : goal.returns-in-Journal-clause-made
returns-in-Journal-clause-made g c =
    let kept = c.in-Journal.kept in
    let text = c.args.text.now in
    makes_weaken Stays (MakesNew text) _ _ (λ told is file same new.
    let journal = found_journal text _ kept told.file c.in-Journal.is
    (of_told _ _ told is c.in_ok-found.ensures.file) in
    absurd (ready_not_new told.file text (journal.journal.first, journal.journal.ready) new))
    c.sync_and_find.ensures.stays

-- it is to be made anew
pub begin-requires-clause-read : goal.begin-requires-clause-read
begin-requires-clause-read g c =
    to_told (IsHeadOf c.deref.result.now) (g.S.Site.state c.sync_and_find.new.site).disk
    (λ told is.
    let before = came _ _ _ told is c.sync_and_find.ensures.stays in
    let new = found_new c.args.text.now _ c.in-New.head before.disk.file
    c.in-New.is (of_told _ _ before.disk before.told c.in_ok-found.ensures.file) in
    subst (IsHeadOf c.deref.result.now) (sym before.makes)
    (subst (λ (b : List ℕ). IsHeadOf b before.disk.file) (sym c.deref.ensures.value) new.1))

pub begin-requires-clause-is_new : goal.begin-requires-clause-is_new
begin-requires-clause-is_new g c =
    to_told (λ file. IsNew file c.args.text.now) (g.S.Site.state c.sync_and_find.new.site).disk
    (λ told is.
    let before = came _ _ _ told is c.sync_and_find.ensures.stays in
    let new = found_new c.args.text.now _ c.in-New.head before.disk.file
    c.in-New.is (of_told _ _ before.disk before.told c.in_ok-found.ensures.file) in
    subst (λ (f : List ℕ). IsNew f c.args.text.now) (sym before.makes) new.0)

pub returns-in_ok-begin-in-New-clause-opened : goal.returns-in_ok-begin-in-New-clause-opened
returns-in_ok-begin-in-New-clause-opened g c told is =
    let new = found_new c.args.text.now _ c.in-New.head told.file c.in-New.is
    (of_told _ _ told is c.in_ok-found.ensures.file) in
    let text = c.args.text.now in
    subst (λ (m : Marks). Opens told.file text c.new.result m) (sym c.fresh.ensures)
    (subst (λ (h : PlainHistory). Opens told.file text h fresh) (sym c.new.ensures)
    (opens_new told.file text new.0))

pub returns-in_ok-begin-in-New-clause-fits : goal.returns-in_ok-begin-in-New-clause-fits
returns-in_ok-begin-in-New-clause-fits g c =
    let text = c.args.text.now in
    let none = sym c.new.ensures in
    fits_only _ _ _ text c.new.result (ap (λ (m : Marks). m.actions) c.fresh.ensures ∙ ap length none)
    c.in_ok-begin-in-New.ensures.settled
    (λ disk told.
    let before = came _ _ _ disk told c.in_ok-begin-in-New.ensures.begun in
    subst (λ (m : Marks). IsJournalWith disk.file text c.new.result m (7 + length text))
    (sym c.fresh.ensures)
    (subst (λ (w : PlainHistory). IsJournalWith disk.file text w fresh (7 + length text)) none
    (made_anew text c.requires.short disk.file before.makes)))

pub returns-in_ok-begin-in-New-clause-made : goal.returns-in_ok-begin-in-New-clause-made
returns-in_ok-begin-in-New-clause-made g c =
    let text = c.args.text.now in
    stays_then (MakesNew text) _ _ _ c.sync_and_find.ensures.stays
    (makes_weaken (λ _ file. file ≡ new_journal text) (MakesNew text) _ _ (λ told is file made new.
    made) c.in_ok-begin-in-New.ensures.begun)

pub returns-in_ok-begin-in-New-clause-images : goal.returns-in_ok-begin-in-New-clause-images
returns-in_ok-begin-in-New-clause-images g c told is =
    let new = found_new c.args.text.now _ c.in-New.head told.file c.in-New.is
    (of_told _ _ told is c.in_ok-found.ensures.file) in
    let there = made _ _ _ told is c.sync_and_find.ensures.stays in
    leaves_begun c.args.text.now told.file _ _ _ _ _ _ new.0
    c.sync_and_find.ensures.calls (c.sync_and_find.ensures.images told is)
    c.begin.ensures.calls (c.begin.ensures.images there.disk there.told)

pub returns-in_err-begin-in-New-clause-refused : goal.returns-in_err-begin-in-New-clause-refused
returns-in_err-begin-in-New-clause-refused g c =
    let text = c.args.text.now in
    refused_up c.from_residual-in_err-begin-in-New.result c.in_err-begin-in-New.field-0.0
    (λ why. ForSome (g.S.Site.state c.args.site.now).disk
    (λ disk. RefusesFileAs disk.file text why))
    c.from_residual-in_err-begin-in-New.ensures.1
    (λ told is. refuses_any _ told.file text c.in_err-begin-in-New.ensures.fault)

pub returns-in_err-begin-in-New-clause-images : goal.returns-in_err-begin-in-New-clause-images
returns-in_err-begin-in-New-clause-images g c told is =
    let new = found_new c.args.text.now _ c.in-New.head told.file c.in-New.is
    (of_told _ _ told is c.in_ok-found.ensures.file) in
    let there = made _ _ _ told is c.sync_and_find.ensures.stays in
    leaves_begun c.args.text.now told.file _ _ _ _ _ _ new.0
    c.sync_and_find.ensures.calls (c.sync_and_find.ensures.images told is)
    c.begin.ensures.calls (c.begin.ensures.images there.disk there.told)

-- it is refused
pub returns-in_err-found-clause-refused : goal.returns-in_err-found-clause-refused
returns-in_err-found-clause-refused g c =
    refused_up c.from_residual.result c.in_err-found.field-0.0
    (λ why. ForSome (g.S.Site.state c.args.site.now).disk
    (λ disk. RefusesFileAs disk.file c.args.text.now why))
    c.from_residual.ensures.1 (λ told is. of_told _ _ told is c.in_err-found.ensures.file)

pub returns-in_err-found-clause-images : goal.returns-in_err-found-clause-images
returns-in_err-found-clause-images g c told is =
    leaves_same c.args.text.now told.file _ _ _ _ c.sync_and_find.ensures.stays
    (c.sync_and_find.ensures.images told is)
